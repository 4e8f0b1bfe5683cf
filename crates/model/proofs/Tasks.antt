-- Tasks by rising numbers, and what a pass does to them one by one. All that the parts below have is passed on from here.
-- The lemmas that carry most: rising_one (one task by a number), step_is and steps_are (what holds of every outcome of a job's step holds of the step, and so of all jobs'), places_pass.
-- Assumes nothing.
pub mod Names
pub mod ByNumber
pub mod Steps
pub mod Placing
pub use Names.{same_refl, same_eq, eq_same, same_sym, unsame_sym}
pub use ByNumber.{Rising, rising_from, rising_to, rising_low, rising_over, rising_one, rising_pass, rising_end}
pub use Steps.{waiting_not_ready, jobless, Ends, orphans_pass, ended_pass, MayEnd, may_end, step_is, steps_are}
pub use Placing.{Places, Put, Never, told_not_waiting, put_put, put_id, place_pass, stays_in, Queue, queue_next, places_pass, queue_of}
