-- A list kept in order: where one more goes, the others moved up, and one after the other sorted.
use Rattle.std.specs.Prelude.{ℕ, zero, suc, ◌+◌, ◌-◌, ◌≤◌, ◌<◌, ◌≡◌, Bool, true, false, take, drop, get_or, set}
use Rattle.std.proofs.Common.{ap, ◌∙◌, length-take, drop_of_length-le, length-drop, length-append, take-take, drop_at}
use mathlib.Core.List.{List, [], ◌∷◌, ◌++◌, Memᴰ}
use native.Mathlib.Omega.{arith}
use Rattle.std.proofs.Math.ListN.{length}
use Rattle.std.proofs.lemmas.List.{set_split}
use Rattle.std.proofs.Math.Seq.{take-set-lt, paste}
use Rattle.std.proofs.lemmas.List.{take-append-le, drop-take}
use Rattle.std.proofs.lemmas.List.Edits.{take-paste}
use Rattle.volume.specs.Lists.{insert, sort}
use Rattle.volume_laws.specs.Steps.{drop_step}
use Rattle.volume_laws.specs.Sort.{Order, Sorted, insert_at, not_before_earlier, sorted_sort, sort_mem}
use Rattle.inode_order.specs.Order.{inserted}

module _ (before : ℕ → ℕ → Bool) where
  -- ---- the search by halves for the place of a: it is low at least and high at most
  pub record Searched (a : ℕ) (l : List ℕ) (low high : ℕ) : Type 0 where
    pub ordered : low ≤ high
    pub within : high ≤ length l
    pub below : (k : ℕ) → k < low → before a (get_or l k 0) ≡ false
    pub above : high < length l → before a (get_or l high 0) ≡ true

  pub search_begins : (a : ℕ) (l : List ℕ) → Searched a l 0 (length l)
  search_begins a l = record {
    ordered = omega arith;
    within = omega arith;
    below = λ k h. absurd (omega arith);
    above = λ h. absurd (omega arith);
  }

  module _ {a : ℕ} {l : List ℕ} {low high : ℕ} (s : Searched a l low high) where
    module _ (middle : ℕ) (from : low ≤ middle) (to : middle < high) where
      pub search_lower : before a (get_or l middle 0) ≡ true → Searched a l low middle
      search_lower e = record {
        ordered = from;
        within = omega (arith, s.within);
        below = s.below;
        above = λ h. e;
      }

      pub search_higher : Order before → Sorted before l → before a (get_or l middle 0) ≡ false → Searched a l (middle + 1) high
      search_higher o sorted e = record {
        ordered = omega arith;
        within = s.within;
        below = λ k h. not_before_earlier before 0 o l sorted a k middle (omega arith) (omega (arith, s.within)) e;
        above = s.above;
      }

    pub search_ends : high ≤ low → insert before a l ≡ inserted low a l
    search_ends h =
        let e : low ≡ high = omega (arith, s.ordered) in
        insert_at before 0 a l low (omega (arith, s.within)) s.below (λ w. rw e (s.above (omega arith)))

mem_drop : {A : Type 0} (k : ℕ) (l : List A) {a : A} → Memᴰ a (drop k l) → Memᴰ a l
mem_drop zero l m = m
mem_drop (suc k) [] m = m
mem_drop (suc k) (b ∷ l) m = Memᴰ.tail (mem_drop k l m)

-- ---- those from place k on moved up one place, and a stored at k
pub moved_up : (l : List ℕ) (n k a : ℕ) → k ≤ n → n < length l → take (n + 1) (set (paste l (k + 1) (drop k l) (n - k)) k a) ≡ inserted k a (take n l)
moved_up l n k a w room =
    let z : n + 1 ≡ k + 1 + (n - k) = omega arith in
    let h : take (n + 1) (paste l (k + 1) (drop k l) (n - k)) ≡ take (k + 1) l ++ take (n - k) (drop k l) =
    ap (λ (m : ℕ). take m (paste l (k + 1) (drop k l) (n - k))) z
    ∙ take-paste l (k + 1) (drop k l) (n - k) (omega arith) (omega (arith, length-drop k l)) in
    let y : k + (n - k) ≡ n = omega arith in
    let g : drop k (take n l) ≡ take (n - k) (drop k l) = rw y at (drop-take k (n - k) l) in
    let f : length (take (k + 1) l) ≡ suc k = omega (arith, length-take (k + 1) l) in
    let lt : k < length (take (k + 1) l ++ take (n - k) (drop k l)) = omega (arith, length-append (take (k + 1) l) (take (n - k) (drop k l))) in
    take-set-lt (n + 1) (paste l (k + 1) (drop k l) (n - k)) k a (omega arith)
    ∙ rw (
      h,
      set_split (take (k + 1) l ++ take (n - k) (drop k l)) k a lt,
      drop_at (take (k + 1) l) (take (n - k) (drop k l)) (suc k) f,
      take-append-le k (take (k + 1) l) (take (n - k) (drop k l)) (omega arith),
      take-take k (k + 1) l (omega arith),
      take-take k n l w,
      g,
    )

-- ---- a list sorted from its last member to the first

-- the first of l are the last `count` of ps, sorted
pub record LastSorted (before : ℕ → ℕ → Bool) (ps : List ℕ) (count : ℕ) (l : List ℕ) : Type 0 where
  pub within : count ≤ length ps
  pub front : take count l ≡ sort before (drop (length ps - count) ps)

module _ {before : ℕ → ℕ → Bool} {ps : List ℕ} where
  pub sort_begins : (l : List ℕ) → LastSorted before ps 0 l
  unfolding sort
  sort_begins l = record { within = omega arith; front = rw (drop_of_length-le ps {i = length ps - 0} (omega arith)) }

  module _ {count : ℕ} {l : List ℕ} (s : LastSorted before ps count l) where
    pub last_mem : {p : ℕ} → Memᴰ p (take count l) → Memᴰ p ps
    last_mem m = mem_drop (length ps - count) ps (sort_mem before (drop (length ps - count) ps) (rw s.front at m))

    pub last_sorted : Order before → Sorted before (take count l)
    last_sorted o = rw s.front (sorted_sort before o (drop (length ps - count) ps))

    -- the member before them inserted
    pub sort_on : count < length ps → (p : ℕ) → p ≡ get_or ps (length ps - 1 - count) 0 → (l' : List ℕ)
        → take (count + 1) l' ≡ insert before p (take count l) → LastSorted before ps (count + 1) l'
    unfolding sort
    sort_on h p is l' e =
        let k = length ps - 1 - count in
        let z : k + 1 ≡ length ps - count = omega arith in
        let y : length ps - (count + 1) ≡ k = omega arith in
        record { within = omega arith; front = e ∙ rw (s.front, y, drop_step ps k (omega arith), z, is) }
