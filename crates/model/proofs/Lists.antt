-- Lists by tests: what is kept, changed, found and counted, and passes over lists. All that the parts below have is passed on from here.
-- The lemmas that carry most: pass_from and pass_to (where an element of a pass came from, and where one goes), pass_up and pass_down (counts through a pass), once_pass.
-- Assumes nothing.
pub mod Tests
pub mod Members
pub mod Chosen
pub mod Kept
pub mod Counts
pub mod Passes
pub mod Apart
pub use Tests.{to_true, from_true, not_to_false, clash, bool, never}
pub use Members.{In, in_from, in_to, in_end, in_left, in_append}
pub use Chosen.{every_at, every_from, some_from, some_at, some_not, not_some, find_none, find_in, none_true}
pub use Kept.{keep_yes, keep_no, in_keep, keep_in, keep_keep, change_hit, change_miss, last_in, head_in}
pub use Counts.{bump, count_cons, bump_mono, keep_end, count_same, change_down, keep_nothing}
pub use Passes.{Pass, done, gone, goes, pass_same, pass_keep, pass_change, pass_map, pass_then, pass_from, pass_to, pass_down, pass_up, pass_weaken}
pub use Apart.{Once, once_pass, once_end, once_append}
