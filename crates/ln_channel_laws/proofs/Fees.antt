-- The closing fees: what an end answers to one by its rules, and what both come to.
pub mod FairAnswers
pub mod FeeRules
pub mod Deals
pub mod FeesInFlight
pub mod FeesOverRuns
pub mod OneFee
pub mod FirstFee
pub mod OwnRules
pub mod LastFee
