-- A report's bytes, part by part.
-- Assumes nothing.
use Rattle.std.proofs.Common.{◌≡◌, ℕ, ◌+◌, ◌*◌, Bool, List, [], ◌∷◌, ◌++◌, length, sym, refl, ap, ◌∙◌, append_assoc, arith, length-append}
use mir.Val.{bool_byte}
use Rattle.std.specs.List.{flat_map}
use Rattle.model.specs.Calls.{Seen, Order, Report}
use Rattle.model.specs.Lines.{framed}
use Rattle.model.specs.Wire.{Bytes, bytes_of, flag_of, seen_bytes, call_bytes}
use Rattle.model.specs.World.{is_ready_in, may_run}
use Rattle.octets.proofs.Numbers.{length_bytes_of}
use Rattle.wire.proofs.Pushing.{flag_byte}
use Rattle.wire.proofs.Lengths.{length_seen_bytes}
use Rattle.agents.specs.Reporting.{front_of, task_bytes_lem, tasks_bytes}

-- all tasks, one after the other
pub tasks_joined : (xs : List Seen) (os : List Order) → seen_bytes (may_run xs os) ≡ tasks_bytes xs os
unfolding seen_bytes may_run
tasks_joined xs [] = refl
tasks_joined xs (o ∷ os) =
    let h = tasks_joined xs os in
    ap (λ (bs : Bytes). bytes_of 8 o.id ++ (flag_of (is_ready_in o.id xs) ∷ bs)) h ∙ sym (append_assoc (bytes_of 8 o.id) (flag_of (is_ready_in o.id xs) ∷ []) (flat_map (λ (y : Order). task_bytes_lem xs y.id) os))

pub length_may_run : (xs : List Seen) (os : List Order) → length (may_run xs os) ≡ length os
unfolding may_run
length_may_run xs [] = refl
length_may_run xs (o ∷ os) = let h = length_may_run xs os in cc

-- the front and the tasks are the framed call
pub report_parts : (tag k l n c : ℕ) (xs : List Seen) (os : List Order) → c ≡ length os → front_of tag k l n c ++ tasks_bytes xs os ≡ framed tag (call_bytes (Report k l n (may_run xs os)))
report_parts tag k l n c xs os e = simp append_assoc (ap (λ (m : ℕ). bytes_of 4 m ++ (bytes_of 4 tag ++ body)) long ∙ ap (framed tag) same)
  where
    body : Bytes
    body = 7 ∷ (bytes_of 2 k ++ (bytes_of 8 l ++ (bytes_of 8 n ++ (bytes_of 2 c ++ tasks_bytes xs os))))

    many : length (tasks_bytes xs os) ≡ 9 * c
    many = ap length (sym (tasks_joined xs os)) ∙ length_seen_bytes (may_run xs os) ∙ ap (λ (m : ℕ). 9 * m) (length_may_run xs os ∙ sym e)

    long : 25 + 9 * c ≡ 4 + length body
    long = simp (length-append, length_bytes_of, many) (omega arith)

    same : body ≡ call_bytes (Report k l n (may_run xs os))
    same = rw (tasks_joined xs os, length_may_run xs os, e)

-- the front, one part behind the other
pub front_pushed : (old v1 v2 v3 v4 v5 v6 v7 : Bytes) (tag k l n c m : ℕ) → m ≡ 25 + 9 * c → v1 ≡ old ++ bytes_of 4 m → v2 ≡ v1 ++ bytes_of 4 tag → v3 ≡ v2 ++ (7 ∷ []) → v4 ≡ v3 ++ bytes_of 2 k → v5 ≡ v4 ++ bytes_of 8 l → v6 ≡ v5 ++ bytes_of 8 n →
    v7 ≡ v6 ++ bytes_of 2 c → v7 ≡ old ++ front_of tag k l n c
front_pushed old v1 v2 v3 v4 v5 v6 v7 tag k l n c m h e1 e2 e3 e4 e5 e6 e7 = rw (e7, e6, e5, e4, e3, e2, e1, h) (simp append_assoc)

-- a task and its flag
pub task_joined : (xs : List Seen) (i u : ℕ) (b : Bool) (old v1 v2 a : Bytes) → v1 ≡ old ++ a → v2 ≡ v1 ++ (u ∷ []) → a ≡ bytes_of 8 i → u ≡ bool_byte b → b ≡ is_ready_in i xs → v2 ≡ old ++ task_bytes_lem xs i
task_joined xs i u b old v1 v2 a e1 e2 ea eu eb = rw (e2, e1, ea, eu, flag_byte b, eb) (append_assoc old (bytes_of 8 i) (flag_of (is_ready_in i xs) ∷ []))
