-- The checks of an overwrite, 14, 16 and 15, mean what their rows say.
use Prim.Native.Nat.{ℕ, ◌+◌, ◌-◌, ◌≤◌, ◌<◌}
use Rattle.std.specs.Prelude.{◌≡◌, ◌⊎◌, Bool, cond, ltb}
use Rattle.std.proofs.Math.Path.{refl, ap}
use Rattle.std.proofs.Common.{inr, ⊎_elim, arith, length-append, ltb-true, ltb-false}
use Rattle.std.proofs.Math.Bool.{true, false}
use Rattle.std.proofs.Math.Option.{Option, none, some}
use mathlib.Core.List.Memᴰ
use mathlib.Core.List.{List, [], ◌∷◌, ◌++◌, map, Memᴰ}
use Rattle.std.proofs.Math.ListN.{length}
use Rattle.format.specs.Bytes.{Bytes}
use Rattle.format.specs.Record.{record_sequence}
use Rattle.volume.specs.View.{by_bytes}
use Rattle.volume.specs.Contents.{text_of}
use Rattle.volume_laws.specs.Tests.{true→T}
use Rattle.calls.specs.Image.{put, part}
use Rattle.calls.specs.Append.{is_broken}
use Rattle.calls.specs.Storing.{is_among}
use Rattle.calls.specs.Overwrite.{holds_byte, Change, changes_from, changes, new_version, text_after, blocks_in}
use Rattle.calls_laws.specs.Unused.{among, not_among}
use Rattle.demand2_overwrite.specs.Blocks.{held, change_at, Holder}
use Rattle.demand2_overwrite.proofs.Blocks.{holds_true, holds_false, change_holds}
use Rattle.demand1.specs.Table.{Touched, NewRecords, no_more, none_for, one_for}
use Rattle.demand1.specs.Mounting.{Means}

-- the blocks of a file that is not broken
pub whole_blocks : (o : Option (List Bytes)) → is_broken o ≡ false → o ≡ some (blocks_in o)
whole_blocks none e = let z : ◌≡◌ {A = ℕ} 0 1 = cc in absurd (omega arith)
whole_blocks (some bs) e = refl

same_blocks : (o : Option (List Bytes)) (bs : List Bytes) → o ≡ some bs → blocks_in o ≡ bs
same_blocks o bs q = ap blocks_in q

-- 14: "an offset or an end past the size"
pub past_means : (o : Option (List Bytes)) (offset n : ℕ) → o ≡ some (blocks_in o)
    → Means (ltb (length (text_of by_bytes (blocks_in o))) (offset + n)) ((bs : List Bytes) × (o ≡ some bs)
    × ((length (text_of by_bytes bs) < offset) ⊎ (length (text_of by_bytes bs) < offset + n)))
past_means o offset n w = (
  (λ e. (blocks_in o, w, inr (ltb-true (length (text_of by_bytes (blocks_in o))) (offset + n) e))),
  (λ e p.
      let g = ltb-false (length (text_of by_bytes (blocks_in o))) (offset + n) e in
      let s = ap (λ (l : List Bytes). length (text_of by_bytes l)) (same_blocks o p.0 p.1) in
      ⊎_elim (λ h. omega (arith, g, s, h)) (λ h. omega (arith, g, s, h)) p.2),
)

-- the sequences of the blocks that are changed
abbrev sequences_of : List Change → List ℕ
sequences_of cs = map (λ c. record_sequence c.block) cs

module _ (from to : ℕ) (after : Bytes) where
  -- each block that holds a byte of the range, the one at p, is changed
  touched_changed : (before behind : List Bytes) (b : Bytes) (s p : ℕ) → from ≤ p → p < to → s + length (text_of by_bytes before) ≤ p
      → p < s + length (text_of by_bytes before) + length (by_bytes.text b)
      → Memᴰ (record_sequence b) (sequences_of (changes_from from to after s (before ++ (b ∷ behind))))
  unfolding changes_from text_of
  touched_changed [] behind b s p i j k l = go (holds_byte from to s n) refl
    where
      n : ℕ
      n = length (by_bytes.text b)

      later : List Change
      later = changes_from from to after (s + n) behind

      go : (t : Bool) → holds_byte from to s n ≡ t
          → Memᴰ (record_sequence b) (sequences_of (cond t (record { block = b; text = part after s n } ∷ later) later))
      go true e = Memᴰ.head refl
      go false e = absurd (holds_false from to s n e (p - s, omega arith, omega arith, omega arith))
  touched_changed (a ∷ before) behind b s p i j k l =
      let e = length-append (by_bytes.text a) (text_of by_bytes before) in
      go (holds_byte from to s n) (touched_changed before behind b (s + n) p i j (omega arith) (omega arith))
    where
      n : ℕ
      n = length (by_bytes.text a)

      later : List Change
      later = changes_from from to after (s + n) (before ++ (b ∷ behind))

      go : (t : Bool) → Memᴰ (record_sequence b) (sequences_of later)
          → Memᴰ (record_sequence b) (sequences_of (cond t (record { block = a; text = part after s n } ∷ later) later))
      go true m = Memᴰ.tail m
      go false m = m

  -- the changes that are made where the first block is changed, or is not
  abbrev perhaps : Bool → ℕ → Bytes → List Bytes → List Change
  perhaps x s b bs =
      cond x (change_at after s b ∷ changes_from from to after (s + held b) bs) (changes_from from to after (s + held b) bs)

  -- the new versions are the records of the table
  versions_are : (s : ℕ) (bs : List Bytes) → NewRecords from to after s bs (map new_version (changes_from from to after s bs))
  unfolding changes_from new_version
  versions_are s [] = no_more
  versions_are s (b ∷ bs) = go (holds_byte from to s (held b)) refl (versions_are (s + held b) bs)
    where
      go : (x : Bool) → holds_byte from to s (held b) ≡ x
          → NewRecords from to after (s + held b) bs (map new_version (changes_from from to after (s + held b) bs))
          → NewRecords from to after s (b ∷ bs) (map new_version (perhaps x s b bs))
      go true e ih = one_for (holds_true from to s (held b) e) ih
      go false e ih = none_for (holds_false from to s (held b) e) ih

  -- and there are no others
  versions_only : {s : ℕ} {bs ws : List Bytes} → NewRecords from to after s bs ws → ws ≡ map new_version (changes_from from to after s bs)
  unfolding changes_from new_version
  versions_only no_more = refl
  versions_only {s} (none_for {b = b} {bs = bs} {ws = ws} h t) = go (holds_byte from to s (held b)) refl (versions_only t)
    where
      go : (x : Bool) → holds_byte from to s (held b) ≡ x → ws ≡ map new_version (changes_from from to after (s + held b) bs)
          → ws ≡ map new_version (perhaps x s b bs)
      go true e ih = absurd (h (holds_true from to s (held b) e))
      go false e ih = ih
  versions_only {s} (one_for {b = b} {bs = bs} {ws = ws} h t) = go (holds_byte from to s (held b)) refl (versions_only t)
    where
      go : (x : Bool) → holds_byte from to s (held b) ≡ x → ws ≡ map new_version (changes_from from to after (s + held b) bs)
          → new_version (change_at after s b) ∷ ws ≡ map new_version (perhaps x s b bs)
      go true e ih = ap (λ (l : List Bytes). new_version (change_at after s b) ∷ l) ih
      go false e ih = absurd (holds_false from to s (held b) e h)

-- 16: "such a block at sequence" q
block_means : (bs : List Bytes) (offset : ℕ) (text : Bytes) (q : ℕ)
    → Means (is_among q (sequences_of (changes bs offset text))) ((b : Bytes) × Touched bs offset (length text) b × (record_sequence b ≡ q))
unfolding changes
block_means bs offset text q = (
  (λ e. let r = Memᴰ.of_map (λ (c : Change). record_sequence c.block) (changes bs offset text) (among q _ (true→T e)) in
      (r.0.block, to_block r.0.block (change_holds offset (offset + length text) _ 0 bs r.0 r.1), r.2)),
  (λ e p. not_among q _ (λ t. rw e at t) (back p.0 p.1 p.2)),
)
  where
    to_block : (b : Bytes) → Holder offset (offset + length text) 0 bs b → Touched bs offset (length text) b
    to_block b h =
        let i = h.holds in
        record {
          before = h.front;
          behind = h.behind;
          split = h.split;
          place = length (text_of by_bytes h.front) + i.0;
          written = (omega (arith, i.2), omega (arith, i.3));
          held = (omega arith, omega (arith, i.1));
        }

    back : (b : Bytes) → Touched bs offset (length text) b → record_sequence b ≡ q → Memᴰ q (sequences_of (changes bs offset text))
    back b t y = rw (t.split, ← y) (touched_changed offset (offset + length text) _ t.before t.behind b 0 t.place
        t.written.0 t.written.1 (omega (arith, t.held.0)) (omega (arith, t.held.1)))

pub touched_means : (o : Option (List Bytes)) (offset : ℕ) (text : Bytes) (q : ℕ) → o ≡ some (blocks_in o)
    → Means (is_among q (sequences_of (changes (blocks_in o) offset text))) ((bs : List Bytes) × (o ≡ some bs)
    × ((b : Bytes) × Touched bs offset (length text) b × (record_sequence b ≡ q)))
touched_means o offset text q w =
    let m = block_means (blocks_in o) offset text q in (
      (λ e. (blocks_in o, w, m.0 e)),
      (λ e p. m.1 e (rw (same_blocks o p.0 p.1) p.2)),
    )

-- 15: the records of the table, where the new versions have a property
pub versions_mean : (o : Option (List Bytes)) (offset : ℕ) (text : Bytes) (x : Bool) (P : List Bytes → Type 0) → o ≡ some (blocks_in o)
    → Means x (P (map new_version (changes (blocks_in o) offset text)))
    → Means x ((bs ws : List Bytes) × (o ≡ some bs) × NewRecords offset (offset + length text) (put (text_of by_bytes bs) offset text) 0 bs ws × P ws)
unfolding changes
versions_mean o offset text x P w m = (
  (λ e. (blocks_in o, _, w, versions_are offset (offset + length text) (text_after (blocks_in o) offset text) 0 (blocks_in o), m.0 e)),
  (λ e p.
      let q = versions_only offset (offset + length text) (put (text_of by_bytes p.0) offset text) p.3 in
      m.1 e (rw (same_blocks o p.0 p.2, ← q) p.4)),
)
