-- All that holds of what really runs.
-- Assumes nothing.
use Rattle.together.specs.Now.{HoldsAlways}
use Rattle.together.proofs.Telling.{all_told_lem}
use Rattle.together.proofs.Now.{runs_fit_now, runs_once, takes_few_lem, never_waits_now, ready_now, answers_stand_lem, always_fits_lem}
use Rattle.together.proofs.Over.{never_over_now}

pub holds_always : HoldsAlways
holds_always = record { told = all_told_lem; fits = runs_fit_now; once = runs_once; over = never_over_now; takes = takes_few_lem; waits = never_waits_now; ready = ready_now; stands = answers_stand_lem; within = always_fits_lem }
