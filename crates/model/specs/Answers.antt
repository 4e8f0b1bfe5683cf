-- Reading an answer, as an agent does. An order has at most eight tags: no herd sends one with more.
-- Assumes nothing.
use Rattle.std.specs.Prelude.{◌≡◌, ℕ, zero, suc, ◌+◌, ◌*◌, ◌<◌, Bool, true, false, cond, ◌&&◌, List, [], ◌∷◌, length, drop, ◌==◌, nat_le, nat_lt}
use Rattle.model.specs.Lists.{every}
use Rattle.model.specs.State.{Spec, Phase, Waiting, Told, Ready, Ending}
use Rattle.model.specs.Calls.{Seen, Report, Order, Line, small}
use Rattle.model.specs.Wire.{Bytes, Read, garbled, meant, field, byte_at, is_flag, spec_in_lem, call_bytes, Answer, Refused, Done, Runs, Shown, answer_bytes}
use Rattle.model.specs.Lines.{framed, tag_in, call_in}

-- AN ORDER: the task (8), its image, cpu and memory (4 each), how many tags (1), the tags (4 each), apart (1)

abbrev pub tags_at : Bytes → ℕ
tags_at bs = byte_at 20 bs

abbrev pub order_width : Bytes → ℕ
order_width bs = 22 + 4 * tags_at bs

abbrev pub order_in : Bytes → Order
order_in bs = record { id = field 8 0 bs; spec = spec_in_lem (tags_at bs) (drop 8 bs) }

-- an order stands there whole
abbrev pub is_order_in : Bytes → Bool
is_order_in bs = nat_le (order_width bs) (length bs) && nat_le (tags_at bs) 8 && is_flag (byte_at (21 + 4 * tags_at bs) bs)

unfoldable pub orders_in_lem : ℕ → Bytes → List Order
orders_in_lem zero bs = []
orders_in_lem (suc n) bs = order_in bs ∷ orders_in_lem n (drop (order_width bs) bs)

-- so many of them, and nothing behind
unfoldable pub are_orders_in : ℕ → Bytes → Bool
are_orders_in zero bs = length bs == 0
are_orders_in (suc n) bs = is_order_in bs && are_orders_in n (drop (order_width bs) bs)

-- A LINE OF A SHOWING: the task (8), its version (4), its phase (1), its machine (2)

abbrev pub phase_in : ℕ → Phase
phase_in k = cond (k == 0) Waiting (cond (k == 1) Told (cond (k == 2) Ready Ending))

unfoldable pub lines_in : ℕ → Bytes → List Line
lines_in zero bs = []
lines_in (suc n) bs = record { id = field 8 0 bs; version = field 4 8 bs; phase = phase_in (byte_at 12 bs); machine = field 2 13 bs } ∷ lines_in n (drop 15 bs)

unfoldable pub phases_in : ℕ → Bytes → Bool
phases_in zero bs = true
phases_in (suc n) bs = nat_le (byte_at 12 bs) 3 && phases_in n (drop 15 bs)

-- THE KINDS

abbrev pub read_refused : Bytes → Read Answer
read_refused bs = cond (length bs == 1) (meant (Refused (byte_at 0 bs))) garbled

abbrev pub read_done : Bytes → Read Answer
read_done bs = cond (length bs == 0) (meant Done) garbled

abbrev pub read_runs : Bytes → Read Answer
read_runs bs = cond (nat_le 20 (length bs) && are_orders_in (field 2 18 bs) (drop 20 bs)) (meant (Runs (field 2 0 bs) (field 8 2 bs) (field 8 10 bs) (orders_in_lem (field 2 18 bs) (drop 20 bs)))) garbled

abbrev pub read_shown : Bytes → Read Answer
read_shown bs = cond (length bs == 2 + 15 * field 2 0 bs && phases_in (field 2 0 bs) (drop 2 bs)) (meant (Shown (lines_in (field 2 0 bs) (drop 2 bs)))) garbled

abbrev pub read_answer_kind : ℕ → Bytes → Read Answer
read_answer_kind k bs = cond (k == 0) (read_refused bs) (cond (k == 1) (read_done bs) (cond (k == 2) (read_runs bs) (cond (k == 3) (read_shown bs) garbled)))

abbrev pub read_answer_lem : Bytes → Read Answer
read_answer_lem [] = garbled
read_answer_lem (k ∷ bs) = read_answer_kind k bs

-- LAWS

abbrev pub is_runs : Answer → Bool
is_runs (Refused k) = false
is_runs Done = false
is_runs (Runs k l n os) = true
is_runs (Shown ls) = false

abbrev pub long : ℕ → Bool
long n = nat_lt n 18446744073709551616

abbrev pub spec_fits : Spec → Bool
spec_fits a = small a.image && small a.cpu && small a.mem && nat_le (length a.tags) 8 && every small a.tags

abbrev pub order_fits : Order → Bool
order_fits o = long o.id && spec_fits o.spec

-- what the bytes of an answer to a report can carry
abbrev pub runs_fit_lem : ℕ → ℕ → ℕ → List Order → Bool
runs_fit_lem k l n os = nat_lt k 65536 && long l && long n && nat_lt (length os) 65536 && every order_fits os

-- what was written is read back
abbrev pub RunsBack : Type 0
RunsBack = (k l n : ℕ) (os : List Order) → runs_fit_lem k l n os ≡ true → read_answer_lem (answer_bytes (Runs k l n os)) ≡ meant (Runs k l n os)

-- no other answer, and no report, is read as an answer to a report
abbrev pub NoOtherRuns : Type 0
NoOtherRuns = (a b : Answer) → is_runs a ≡ false → read_answer_lem (answer_bytes a) ≡ meant b → is_runs b ≡ false

abbrev pub NoReportRuns : Type 0
NoReportRuns = (k l n : ℕ) (xs : List Seen) → read_answer_lem (call_bytes (Report k l n xs)) ≡ garbled

-- what was framed is unframed
abbrev pub FrameBack : Type 0
FrameBack = (tag : ℕ) (body : Bytes) → tag < 4294967296 → length body < 4294967292 → (call_in (framed tag body) ≡ body) × (tag_in (framed tag body) ≡ tag)
