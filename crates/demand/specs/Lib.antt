-- What an answer of 0 says of the counts and the lists (CallLaws), what the number of arguments says (ArgumentLaws), demand 3 of them (OnTheCall) and of the numbers for other languages
-- (OnTheNumbers), and that no contract leaves a choice (OneAnswer).
pub mod CallLaws
pub mod ArgumentLaws
pub mod OnTheCall
pub mod OnTheNumbers
pub mod OneAnswer
