pub mod Wholes
mod Appends
mod SetupLaws
mod CommandLaws
mod EventLaws
mod QuestionLaws
mod ItemLaws
mod SummaryLaws
