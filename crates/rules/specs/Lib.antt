-- The rules of document 01, and of the requests that came after it, as definitions. A reader holds each against the section or the request
-- that its comment names; docs/RULES.md and docs/FORMAT.md give the same rules in words. Where a definition is a term of the field, its comment
-- says which one.
pub mod Refusal
pub mod Verdict
pub mod Bytes
pub mod Cell
pub mod Shape
pub mod Limits
pub mod GradeSet
pub mod TableFile
pub mod Editions
pub mod Join
pub mod Network
pub mod Kinds
pub mod NetworkCalls
pub mod Settings
pub mod Tree
pub mod Stage
pub mod Demands
pub mod CompileCall
pub mod Forecast
pub mod Visits
pub mod Small
pub mod SmallForecasts
pub mod SmallWeak
pub mod SmallVisits
pub mod Listing
pub mod SmallListings
pub mod SmallEditions
pub mod SmallCeilings
pub mod SmallSettings
