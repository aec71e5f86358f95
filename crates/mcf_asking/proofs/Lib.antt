pub mod AskedLemmas
pub mod AskedTexts
