-- One more record, told by membership: what it makes count, and what it leaves as it was.
use Rattle.std.specs.Prelude.{ℕ, ◌<◌, ◌≡◌, ◌⊎◌, ◌≢◌}
use Rattle.std.proofs.Math.Option.{Option, some}
use mathlib.Core.List.{List, Memᴰ}
use Rattle.volume.specs.View.{View}

-- the same records, in any order and number
pub record Same {A : Type 0} (rs ss : List A) : Type 0 where
  pub to : (s : A) → Memᴰ s rs → Memᴰ s ss
  pub back : (s : A) → Memᴰ s ss → Memᴰ s rs

module _ {A : Type 0} (F : View A) where
  -- ss is rs and r, in any order and number; r is newer than every record of its id
  pub record Added (rs ss : List A) (r : A) : Type 0 where
    pub old : (s : A) → Memᴰ s rs → Memᴰ s ss
    pub new : Memᴰ r ss
    pub only : (s : A) → Memᴰ s ss → (s ≡ r) ⊎ Memᴰ s rs
    pub newer : (s : A) → Memᴰ s rs → F.id s ≡ F.id r → F.sequence s < F.sequence r

  -- r counts for its id, and for every other id the record that did
  pub record Changed (c d : ℕ → Option A) (r : A) : Type 0 where
    pub here : d (F.id r) ≡ some r
    pub others : (j : ℕ) → j ≢ F.id r → d j ≡ c j
