pub mod TableTexts
