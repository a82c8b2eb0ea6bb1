-- The blocks of a file listed from the last one back, and what the list holds then.
use Prim.Native.Nat.{ℕ, zero, suc, ◌+◌, ◌-◌, ◌*◌, ◌≤◌, ◌<◌}
use Rattle.std.specs.Prelude.{Option as Answer, None, Some, ◌≡◌, Bool, true, false, length, get_or, set, eqb}
use Rattle.std.specs.Bool.{then_some}
use Rattle.std.proofs.Math.Path.{refl, ap}
use Rattle.std.proofs.Common.{sym, ◌∙◌, drop-cons, drop-set-lt, get_or-set_same}
use Rattle.std.proofs.Math.Option.{Option, none, some}
use mathlib.Core.List.{List, [], ◌∷◌, ◌++◌, map, append-nil, append_assoc}
use native.Mathlib.Omega.{arith}
use Rattle.std.proofs.Math.ListN.{drop, length-append, length-set, drop_of_length-le}
use Rattle.format.specs.Bytes.{Bytes}
use Rattle.format.specs.Ids.{NONE}
use Rattle.volume.specs.Contents.{snoc, chain_back, text_of}
use Rattle.record_places.specs.Place.{by_place, block_at, Lies}
use Rattle.file_blocks.specs.Blocks.{block_for}
use Rattle.file_blocks.specs.Walk.{chain_block, chain_broken, chain_whole, chain_more}

-- how many bytes of data the block at p holds
abbrev pub data_size : Bytes → ℕ → ℕ
data_size image p = length ((by_place image).text p)

-- these are places of blocks of the image, and the sizes of their data
pub record Listed (image : Bytes) (bs ns : List ℕ) : Type 0 where
  pub lie : (i : ℕ) → i < length bs → Lies image (get_or bs i 0) × (block_at image (get_or bs i 0) ≡ true)
  pub sizes : ns ≡ map (data_size image) bs

-- what an answer of `list_chain` says of a chain
abbrev pub Lists : Bytes → Option (List ℕ) → Answer ℕ → List ℕ → List ℕ → Type 0
Lists image chain (Some n) bs ns = (chain ≡ some bs) × (n ≡ length (text_of (by_place image) bs)) × Listed image bs ns
Lists image chain None bs ns = chain ≡ none

-- ---- the loop

-- blocks before others
abbrev before : Option (List ℕ) → List ℕ → Option (List ℕ)
before none l = none
before (some xs) l = some (xs ++ l)

before_none : (o : Option (List ℕ)) → before o [] ≡ o
before_none none = refl
before_none (some xs) = ap some (append-nil xs)

before_snoc : (o : Option (List ℕ)) (p : ℕ) (l : List ℕ) → before (snoc o p) l ≡ before o (p ∷ l)
before_snoc none p l = refl
before_snoc (some xs) p l = ap some (append_assoc xs (p ∷ []) l)

-- one more at the front of the rows that are filled
more_filled : (l : List ℕ) (left a : ℕ) → 0 < left → left ≤ length l → drop (left - 1) (set l (left - 1) a) ≡ a ∷ drop left l
more_filled l left a h g =
    let k = left - 1 in
    let e : suc k ≡ left = omega arith in
    drop-cons (set l k a) k 0 (omega (arith, length-set l k a))
    ∙ rw (get_or-set_same l k a 0 (omega arith), drop-set-lt (suc k) l k a (omega arith), e)

-- the rows from `left` on hold the last blocks of the chain; `left` more are followed back from id
pub record Listing (image : Bytes) (c : ℕ → Option ℕ) (f count start id left size : ℕ) (bs ns : List ℕ) : Type 0 where
  pub blocks_long : length bs ≡ count
  pub sizes_long : length ns ≡ count
  pub within : left ≤ count
  pub few : size + left * 65535 ≤ count * 65535
  pub chain : chain_back (by_place image) c f count start ≡ before (chain_back (by_place image) c f left id) (drop left bs)
  pub sized : size ≡ length (text_of (by_place image) (drop left bs))
  pub listed : Listed image (drop left bs) (drop left ns)

module _ {image : Bytes} {c : ℕ → Option ℕ} {f count start : ℕ} where
  pub listing_begins : {bs ns : List ℕ} → length bs ≡ count → length ns ≡ count → Listing image c f count start start count 0 bs ns
  unfolding text_of
  listing_begins {bs} {ns} b n =
      let be : drop count bs ≡ [] = drop_of_length-le bs {i = count} (omega arith) in
      let ne : drop count ns ≡ [] = drop_of_length-le ns {i = count} (omega arith) in
      record {
        blocks_long = b;
        sizes_long = n;
        within = omega arith;
        few = omega arith;
        chain = rw be (sym (before_none (chain_back (by_place image) c f count start)));
        sized = rw be;
        listed = rw (be, ne) (record { lie = λ i h. absurd (omega arith); sizes = refl });
      }

  module _ {id left size : ℕ} {bs ns : List ℕ} (g : Listing image c f count start id left size bs ns) where
    -- a block followed
    pub listing_on : 0 < left → (p : ℕ) → some p ≡ block_for (by_place image) f c id → Lies image p → block_at image p ≡ true
        → (n j : ℕ) → n ≡ data_size image p → n < 65536 → j ≡ (by_place image).previous p
        → Listing image c f count start j (left - 1) (size + n) (set bs (left - 1) p) (set ns (left - 1) n)
    unfolding text_of
    listing_on h p e lies block n j is small back =
        let k = left - 1 in
        let s : left ≡ suc k = omega arith in
        let b : drop k (set bs k p) ≡ p ∷ drop left bs = more_filled bs left p h (omega (arith, g.blocks_long, g.within)) in
        let m : drop k (set ns k n) ≡ n ∷ drop left ns = more_filled ns left n h (omega (arith, g.sizes_long, g.within)) in
        let step : chain_back (by_place image) c f left id ≡ snoc (chain_back (by_place image) c f k ((by_place image).previous p)) p =
        ap (λ n. chain_back (by_place image) c f n id) s ∙ chain_block (by_place image) f c id k p e in
        record {
          blocks_long = length-set bs k p ∙ g.blocks_long;
          sizes_long = length-set ns k n ∙ g.sizes_long;
          within = omega (arith, g.within);
          few = omega (arith, g.few);
          chain = g.chain ∙ rw (step, b, back) (before_snoc (chain_back (by_place image) c f k ((by_place image).previous p)) p (drop left bs));
          sized = rw b (omega (arith, g.sized, length-append ((by_place image).text p) (text_of (by_place image) (drop left bs))));
          listed = rw (b, m) (record {
            lie = each;
            sizes = rw (is, g.listed.sizes);
          });
        }
      where
        each : (i : ℕ) → i < suc (length (drop left bs))
            → Lies image (get_or (p ∷ drop left bs) i 0) × (block_at image (get_or (p ∷ drop left bs) i 0) ≡ true)
        each zero l = (lies, block)
        each (suc i) l = g.listed.lie i (omega arith)

    -- the ways it ends
    pub listing_broken : 0 < left → none ≡ block_for (by_place image) f c id → chain_back (by_place image) c f count start ≡ none
    listing_broken h e =
        let s : left ≡ suc (left - 1) = omega arith in
        let none_left : chain_back (by_place image) c f left id ≡ none =
        ap (λ n. chain_back (by_place image) c f n id) s ∙ chain_broken (by_place image) f c id (left - 1) e in
        g.chain ∙ ap (λ o. before o (drop left bs)) none_left

    pub listing_ended : left ≤ 0 → Lists image (chain_back (by_place image) c f count start) (then_some (eqb id NONE) size) bs ns
    listing_ended h = go (eqb id NONE) refl
      where
        z : left ≡ 0
        z = omega arith

        go : (b : Bool) → eqb id NONE ≡ b → Lists image (chain_back (by_place image) c f count start) (then_some b size) bs ns
        go true e = let k = rw z at g in (k.chain ∙ rw (chain_whole (by_place image) f c id e), k.sized, k.listed)
        go false e = let k = rw z at g in k.chain ∙ rw (chain_more (by_place image) f c id e)
