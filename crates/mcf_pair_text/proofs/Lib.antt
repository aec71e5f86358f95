pub mod ChoiceTexts
pub mod MemberTexts
pub mod ListTexts
pub mod GroupChoiceTexts
