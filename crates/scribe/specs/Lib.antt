-- The plain form, laid: what the parts are (Scribes), their laws (ScribeLaws), those of a run over a text's pieces (RunLaws).
pub mod Scribes
pub mod ScribeLaws
pub mod RunLaws
