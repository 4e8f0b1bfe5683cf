-- Room on machines. All that the parts below have is passed on from here.
-- The lemmas that carry most: weigh_cons, seen_within (different ones that run, each one of these tasks, need no more than the tasks), takes_less, waits_for_room_lem.
-- Assumes nothing.
pub mod Weights
pub mod Free
pub use Weights.{cpu_weigh, mem_weigh, weigh_cons, waits_nowhere, weigh_up, put_stays, weigh_less, Other, weigh_without, seen_within}
unfoldable pub use Weights.{weigh, weigh_seen}
pub use Free.{takes_less, best_none, best_in, placed_waits_not, put_waiting, waits_placing, waits_for_room_lem}
