-- Bytes as a name.
-- Assumes nothing.
use Rattle.std.proofs.Common.{◌≡◌, ◌<◌, ◌≤◌, ℕ, List, length, Some, None, Option, ap, arith}
use Rattle.std.specs.Option.{MatchOption}
use Rattle.std.proofs.lemmas.Bool.Decides.{nat_tests}
use Rattle.jobs.specs.declared.name.Name.{Name}
use Rattle.jobs.specs.Values.{name_of}
use Rattle.jobs.proofs.Names.{length_bytes}
use Rattle.calls.specs.Wanted.{NamedAs}
use Rattle.calls.proofs.Ranges.{name_ok_lem}

-- bytes that are not none are a name, if they are not too many
pub named : (bs : List ℕ) (o : Option Name) → (length bs ≡ 0 → ⊥) → MatchOption o (64 < length bs) (λ n. name_of n ≡ bs) → NamedAs bs o
named bs None z h = grind (arith, nat_tests)
named bs (Some n) z h = let long : length bs ≤ 64 = let l = length_bytes n.len n.words in let e = ap length h in let s = n.short in omega arith in (name_ok_lem (length bs) z long, h)
