-- Parts of a call that are pushed behind the bytes that are there. Their numbers are those of types, and so in range.
-- Assumes nothing.
use Rattle.std.specs.Prelude.{◌≡◌, ℕ, true, ◌∷◌, ◌++◌, length}
use Rattle.model.specs.Lists.{every}
use Rattle.model.specs.Calls.{Call, small}
use Rattle.model.specs.Wire.{Bytes, bytes_of, tag_bytes, seen_bytes, spec_bytes, name_bytes, call_bytes}
use Rattle.calls.specs.Meaning.{tags_of, seens_of, like_of}
use Rattle.calls.specs.declared.call.Likeness.{Likeness}
use Rattle.wire.specs.Fits.{brief, spec_numbers, long_id, numbers_fit}

pub record PushesTags (tags before after : Bytes) : Type 0 where
  pub bytes : after ≡ before ++ length (tags_of tags) ∷ tag_bytes (tags_of tags)
  pub fits : every small (tags_of tags) ≡ true

pub record PushesLike (l : Likeness) (before after : Bytes) : Type 0 where
  pub bytes : after ≡ before ++ spec_bytes (like_of l)
  pub fits : spec_numbers (like_of l) ≡ true

pub record PushesTasks (tasks before after : Bytes) : Type 0 where
  pub bytes : after ≡ before ++ seen_bytes (seens_of tasks)
  pub fits : every long_id (seens_of tasks) ≡ true

-- a kind with a name, or with a machine
abbrev pub PushesName : ℕ → (name before after : Bytes) → Type 0
PushesName k name before after = after ≡ before ++ k ∷ name_bytes name

pub record PushesMachine (k machine : ℕ) (before after : Bytes) : Type 0 where
  pub bytes : after ≡ before ++ k ∷ bytes_of 2 machine
  pub fits : brief machine ≡ true

pub record PushesCall (c : Call) (before after : Bytes) : Type 0 where
  pub bytes : after ≡ before ++ call_bytes c
  pub fits : numbers_fit c ≡ true
