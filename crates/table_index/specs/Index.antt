-- An index of numbered items by slot. Assumes nothing.
use Rattle.std.specs.Prelude.{ℕ, ◌+◌, ◌-◌, ◌*◌, ◌/◌, ◌%◌, ◌≤◌, ◌<◌, ◌≡◌, ◌≢◌, List, get_or, set}

-- how many slots there are
abbrev pub slots : ℕ
slots = 512

-- the slot of a key: its low 32 bits times 2^32 by the golden ratio, of which the 9 highest bits. It spreads keys that follow one another, and such as
-- are a power of two apart.
unfoldable pub slot_of : ℕ → ℕ
slot_of key = key % 4294967296 * 2654435769 % 4294967296 / 8388608

-- an index in one list: of each slot the last item, then of each item, numbered from 1, the one before it in its slot; 0 is none
abbrev pub newest_of : List ℕ → ℕ → ℕ
newest_of index s = get_or index s 0

abbrev pub before_of : List ℕ → ℕ → ℕ
before_of index k = get_or index (slots + k - 1) 0

-- the index with one item more
abbrev pub with_item : List ℕ → ℕ → ℕ → List ℕ
with_item index s k = set (set index (slots + k - 1) (newest_of index s)) s k

-- The item k is the last of the first n whose slot is s, 0 where there is none; f tells the slot of an item.
pub record Last (f : ℕ → ℕ) (s n k : ℕ) : Type 0 where
  pub within : k ≤ n
  pub own : 0 < k → f k ≡ s
  pub none : (j : ℕ) → k < j → j ≤ n → f j ≢ s

-- an index of the first n items
pub record Indexes (f : ℕ → ℕ) (index : List ℕ) (n : ℕ) : Type 0 where
  pub newest : (s : ℕ) → s < slots → Last f s n (newest_of index s)
  pub before : (k : ℕ) → 0 < k → k ≤ n → Last f (f k) (k - 1) (before_of index k)

-- A walk of the items of a slot, newest first: P holds of those behind k, whether they are of the slot or not.
pub record Walk (f : ℕ → ℕ) (P : ℕ → Type 0) (s n k : ℕ) : Type 0 where
  pub within : k ≤ n
  pub own : 0 < k → f k ≡ s
  pub passed : (j : ℕ) → k < j → j ≤ n → P j
