-- The herd with its agents: what holds in every world that is reached. All that the parts below have is passed on from here.
-- The lemmas that carry most: inv_reach (the invariant), agrees_keeps, agrees_hears, put_is (one agent of many), runs_on and one_place (what runs is a task on that machine, and on no other).
-- Assumes nothing.
pub mod Agreement
pub mod Agents
pub mod Hearing
pub mod Moves
pub mod Promises
pub use Agreement.{News, At, Agrees, Numbered, Inv, agrees_keeps, agrees_anew, agrees_off, put_is, agrees_up, agrees_back, numbered_up, numbered_back}
pub use Agents.{agrees_reports, agrees_obeys, SameId, AnySeen, agrees_runs, pass_behind, pass_all, agrees_starts}
pub use Hearing.{hears_is, hears_not_lem, is_news, agrees_hears}
pub use Moves.{inv_step, inv_reach}
pub use Promises.{runs_on, never_too_much_in_any_life_lem, never_too_much_lem, anchored, one_place, never_twice_lem}
