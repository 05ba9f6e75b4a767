-- That accepted texts meet what is asked (InkLaws), by plain's page.
pub mod InkLaws
