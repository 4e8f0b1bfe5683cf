-- Rows of w words each, from word b on, and what they stand for.
-- Assumes nothing.
use Rattle.std.specs.Prelude.{◌≡◌, ℕ, zero, suc, ◌+◌, ◌*◌, ◌<◌, ◌≤◌, cond, List, [], ◌∷◌, ◌++◌, length, take, drop, ◌==◌, slice_index, slice_set}

-- word i, 0 past the end
abbrev pub at : List ℕ → ℕ → ℕ
at ws i = slice_index ws i

abbrev pub row_at : (b w : ℕ) → List ℕ → ℕ → List ℕ
row_at b w ws i = take w (drop (b + i * w) ws)

-- what n rows from a on stand for, each by f; a row that stands for nothing is a hole
unfoldable pub span : {X : Type 0} → (ℕ → List X) → ℕ → ℕ → List X
span f a zero = []
span f a (suc n) = f a ++ span f (suc a) n

-- us is ws but for the words from a to before e
pub record Only (a e : ℕ) (us ws : List ℕ) : Type 0 where
  pub long : length us ≡ length ws
  pub below : (k : ℕ) → k < a → at us k ≡ at ws k
  pub above : (k : ℕ) → e ≤ k → at us k ≡ at ws k

-- the words from p on are r now, all else stays
pub record WordsPut (p : ℕ) (r ws ws' : List ℕ) : Type 0 where
  pub here : take (length r) (drop p ws') ≡ r
  pub only : Only p (p + length r) ws' ws

-- n words from o on stand at p, too
pub record Moved (o p n : ℕ) (ws ws' : List ℕ) : Type 0 where
  pub here : take n (drop p ws') ≡ take n (drop o ws)
  pub only : Only p (p + n) ws' ws

-- ENTRIES: rows that are no holes, each with its word in another list
pub record Entry : Type 0 where
  pub row : List ℕ
  pub flag : ℕ

abbrev pub entry_at : (b w : ℕ) → List ℕ → List ℕ → ℕ → List Entry
entry_at b w ws fs i = cond (at (row_at b w ws i) 0 == 0) [] (record { row = row_at b w ws i; flag = at fs i } ∷ [])

-- the holes of n rows are closed
pub record Closed (b w n : ℕ) (ws fs ws' fs' : List ℕ) (to : ℕ) : Type 0 where
  pub list : span (entry_at b w ws' fs') 0 to ≡ span (entry_at b w ws fs) 0 n
  pub count : length (span (entry_at b w ws fs) 0 n) ≡ to
  pub low : to ≤ n
  pub only : Only b (b + n * w) ws' ws
  pub long : length fs' ≡ length fs

-- row n is r now, and word c says that one more row is in use
pub record Pushed (b w c n : ℕ) (r ws ws' : List ℕ) : Type 0 where
  pub mid : List ℕ
  pub put : WordsPut (b + n * w) r ws mid
  pub counted : ws' ≡ slice_set mid c (n + 1)

-- the holes of n rows are closed, and word c says how many rows are in use then
pub record Shut (b w c n : ℕ) (ws fs ws' fs' : List ℕ) : Type 0 where
  pub mid : List ℕ
  pub to : ℕ
  pub closed : Closed b w n ws fs mid fs' to
  pub counted : ws' ≡ slice_set mid c to
