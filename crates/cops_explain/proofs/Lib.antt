pub mod ParagraphLemmas
pub mod StepLemmas
pub mod OtherLemmas
pub mod TextLemmas
pub mod Unique
pub mod FaultsAt
pub mod ContentLemmas
pub mod FaultLemmas
