-- Calls, by their outcomes. All that the parts below have is passed on from here.
-- The lemmas that carry most: does_is (a call is one of its outcomes), does_keeps (what a pass keeps, and a call's own change, the call keeps), heard_pass, fine_pre and fine_does.
-- Assumes nothing.
pub mod Outcomes
pub mod Heard
pub mod Good
pub use Outcomes.{Must, Pre, must_settle, sets_is, reports_is, acts_is, does_is, does_keeps, does_timed, Tested, acts_when, does_when, must_from, pre_both}
pub use Heard.{HeardGone, HeardAs, heard_pass, heard_id, heard_job}
pub use Good.{fine_settle, once_machines_lem, AsNum, AsId, unsure_as, fine_heard, fine_timed, fine_pre, fine_does, fine_down, stay_good}
