-- The blocks of a file after an overwrite, block by block: what they are, what they hold, and how many headers a read of them follows.
use Rattle.std.specs.Prelude.{ℕ, suc, min, max, ◌+◌, ◌-◌, ◌≤◌, ◌≡◌, Bool, cond, take, drop}
use Rattle.std.proofs.Math.Path.{refl, sym, ap}
use Rattle.std.proofs.Common.{◌∙◌, arith, take-add, drop-drop, drop_at, take_all, ltb-true, ltb-false}
use Rattle.std.proofs.Math.Logic.{⊎_elim}
use Rattle.std.proofs.Math.Bool.{true, false}
use mathlib.Core.List.Memᴰ
use mathlib.Core.List.{List, [], ◌∷◌, ◌++◌, map, append_assoc, Memᴰ}
use Rattle.std.proofs.Math.ListN.{length, length-append}
use Rattle.std.proofs.Math.Seq.{take-append_seam}
use Rattle.format.specs.Bytes.{Bytes}
use Rattle.format.specs.Record.{record_id}
use Rattle.format_laws.specs.Crc.{Octets}
use Rattle.format_laws.specs.Octets.{octets_take, octets_drop}
use Rattle.volume.specs.View.{by_bytes}
use Rattle.volume.specs.Contents.{text_of, headers_from}
use Rattle.volume_laws.specs.Once.{Nodup}
use Rattle.calls.specs.Image.{put, part}
use Rattle.calls.specs.Overwrite.{holds_byte, Change, changes_from, new_version}
use Rattle.image_laws.specs.Apart.{Apart}
use Rattle.image_laws.specs.Laws.{part_length, length_put, part_outside}
use Rattle.demand2_overwrite.specs.Versions.{changed_id, Meant}
use Rattle.demand2_overwrite.specs.Blocks.{held, change_at, HoldsByte, Holder, BlocksAfter, no_more, as_before, rewritten, ChangeOf, Turns}

-- ---- the changes

-- the test of a change finds such a byte, the first of both
pub holds_true : (from to s n : ℕ) → holds_byte from to s n ≡ true → HoldsByte from to s n
unfolding holds_byte
holds_true from to s n e =
    let h = ltb-true (max s from) (min (s + n) to) e in
    (max s from - s, omega arith, omega arith, omega arith)

-- and where it fails there is none
pub holds_false : (from to s n : ℕ) → holds_byte from to s n ≡ false → ¬ HoldsByte from to s n
unfolding holds_byte
holds_false from to s n e t = omega (arith, ltb-false (max s from) (min (s + n) to) e, t.1, t.2, t.3)

module _ (from to : ℕ) (after : Bytes) where
  -- the changes of the blocks behind the first one, and those with it where it is changed
  abbrev later : ℕ → Bytes → List Bytes → List Change
  later s b bs = changes_from from to after (s + held b) bs

  abbrev perhaps : Bool → ℕ → Bytes → List Bytes → List Change
  perhaps x s b bs = cond x (change_at after s b ∷ later s b bs) (later s b bs)

  -- what holds of each change
  pub each_change : Octets after → (s : ℕ) (bs : List Bytes) → s + length (text_of by_bytes bs) ≤ length after
      → (c : Change) → Memᴰ c (changes_from from to after s bs) → ChangeOf bs c
  unfolding changes_from text_of
  each_change o s [] h c m = absurd (Memᴰ.not-nil m)
  each_change o s (b ∷ bs) h c m =
      go (holds_byte from to s (held b)) m (each_change o (s + held b) bs (omega (arith, length-append (by_bytes.text b) (text_of by_bytes bs))) c)
    where
      here : c ≡ change_at after s b → ChangeOf (b ∷ bs) c
      here e = rw e (record {
        block_there = Memᴰ.head refl;
        same_length = part_length after s (held b) (omega (arith, length-append (by_bytes.text b) (text_of by_bytes bs)));
        octets = octets_take (held b) (drop s after) (octets_drop s after o);
      })

      there : ChangeOf bs c → ChangeOf (b ∷ bs) c
      there k = record { block_there = Memᴰ.tail k.block_there; same_length = k.same_length; octets = k.octets }

      go : (x : Bool) → Memᴰ c (perhaps x s b bs) → (Memᴰ c (later s b bs) → ChangeOf bs c) → ChangeOf (b ∷ bs) c
      go true m ih = ⊎_elim here (λ n. there (ih n)) (Memᴰ.cases_cons m)
      go false m ih = there (ih m)

  -- "0 bytes write nothing"
  pub no_changes : to ≤ from → (s : ℕ) (bs : List Bytes) → changes_from from to after s bs ≡ []
  unfolding changes_from
  no_changes h s [] = refl
  no_changes h s (b ∷ bs) = go (holds_byte from to s (held b)) refl (no_changes h (s + held b) bs)
    where
      go : (x : Bool) → holds_byte from to s (held b) ≡ x → later s b bs ≡ [] → perhaps x s b bs ≡ []
      go true e ih = let t = holds_true from to s (held b) e in absurd (omega (arith, t.2, t.3))
      go false e ih = ih

  -- the ids of the changes are ids of the blocks
  changed_ids : (s : ℕ) (bs : List Bytes) (i : ℕ) → Memᴰ i (map changed_id (changes_from from to after s bs)) → Memᴰ i (map record_id bs)
  unfolding changes_from
  changed_ids s [] i m = m
  changed_ids s (b ∷ bs) i m = go (holds_byte from to s (held b)) m (changed_ids (s + held b) bs i)
    where
      go : (x : Bool) → Memᴰ i (map changed_id (perhaps x s b bs))
          → (Memᴰ i (map changed_id (later s b bs)) → Memᴰ i (map record_id bs)) → Memᴰ i (record_id b ∷ map record_id bs)
      go true m ih = ⊎_elim Memᴰ.head (λ n. Memᴰ.tail (ih n)) (Memᴰ.cases_cons m)
      go false m ih = Memᴰ.tail (ih m)

  -- and each is changed once
  pub changes_once : (s : ℕ) (bs : List Bytes) → Nodup (map record_id bs) → Nodup (map changed_id (changes_from from to after s bs))
  unfolding changes_from
  changes_once s [] h = tt
  changes_once s (b ∷ bs) h = go (holds_byte from to s (held b)) (changes_once (s + held b) bs h.1) (changed_ids (s + held b) bs (record_id b))
    where
      go : (x : Bool) → Nodup (map changed_id (later s b bs))
          → (Memᴰ (record_id b) (map changed_id (later s b bs)) → Memᴰ (record_id b) (map record_id bs))
          → Nodup (map changed_id (perhaps x s b bs))
      go true ih up = ((λ m. h.0 (up m)), ih)
      go false ih up = ih

  -- each block that is changed holds a byte of the range
  pub change_holds : (s : ℕ) (bs : List Bytes) (c : Change) → Memᴰ c (changes_from from to after s bs) → Holder from to s bs c.block
  unfolding changes_from text_of
  change_holds s [] c m = absurd (Memᴰ.not-nil m)
  change_holds s (b ∷ bs) c m = go (holds_byte from to s (held b)) refl m (change_holds (s + held b) bs c)
    where
      further : Holder from to (s + held b) bs c.block → Holder from to s (b ∷ bs) c.block
      further h =
          let n = length-append (by_bytes.text b) (text_of by_bytes h.front) in
          let i = h.holds in
          record {
            front = b ∷ h.front;
            behind = h.behind;
            split = ap (λ (l : List Bytes). b ∷ l) h.split;
            holds = (i.0, i.1, omega (arith, n, i.2), omega (arith, n, i.3));
          }

      go : (x : Bool) → holds_byte from to s (held b) ≡ x → Memᴰ c (perhaps x s b bs)
          → (Memᴰ c (later s b bs) → Holder from to (s + held b) bs c.block) → Holder from to s (b ∷ bs) c.block
      go true e m ih = ⊎_elim here (λ n. further (ih n)) (Memᴰ.cases_cons m)
        where
          here : c ≡ change_at after s b → Holder from to s (b ∷ bs) c.block
          here q =
              let i = holds_true from to s (held b) e in
              rw q (record { front = []; behind = bs; split = refl; holds = (i.0, i.1, omega (arith, i.2), omega (arith, i.3)) })
      go false e m ih = further (ih m)

  -- the new versions are as told, of whatever blocks the file would then have
  pub versions_after : (s : ℕ) (bs : List Bytes)
      → ((c : Change) → Memᴰ c (changes_from from to after s bs) → Meant c × (length c.text ≡ held c.block))
      → (cs : List Bytes) × BlocksAfter from to after s bs cs (map new_version (changes_from from to after s bs))
  unfolding changes_from new_version
  versions_after s [] k = ([], no_more)
  versions_after s (b ∷ bs) k = go (holds_byte from to s (held b)) refl k (versions_after (s + held b) bs)
    where
      go : (x : Bool) → holds_byte from to s (held b) ≡ x
          → ((c : Change) → Memᴰ c (perhaps x s b bs) → Meant c × (length c.text ≡ held c.block))
          → (((c : Change) → Memᴰ c (later s b bs) → Meant c × (length c.text ≡ held c.block))
          → (cs : List Bytes) × BlocksAfter from to after (s + held b) bs cs (map new_version (later s b bs)))
          → (cs : List Bytes) × BlocksAfter from to after s (b ∷ bs) cs (map new_version (perhaps x s b bs))
      go true e k ih =
          let c = change_at after s b in
          let h = k c (Memᴰ.head refl) in
          let r = ih (λ d m. k d (Memᴰ.tail m)) in (
            new_version c ∷ r.0,
            rewritten {c = new_version c} (holds_true from to s (held b) e)
                (record { is = h.0; same_length = ap length h.0.text_is ∙ h.1; bytes_are = refl }) r.1,
          )
      go false e k ih = let r = ih k in (b ∷ r.0, as_before (holds_false from to s (held b) e) r.1)

  -- the blocks are then as told
  pub blocks_after : (φ : Bytes → Bytes) (s : ℕ) (bs : List Bytes) → Nodup (map record_id bs) → Turns φ bs (changes_from from to after s bs)
      → BlocksAfter from to after s bs (map φ bs) (map new_version (changes_from from to after s bs))
  unfolding changes_from new_version
  blocks_after φ s [] once t = no_more
  blocks_after φ s (b ∷ bs) once t = go (holds_byte from to s (held b)) refl t (blocks_after φ (s + held b) bs once.1)
      (λ m. once.0 (changed_ids (s + held b) bs (record_id b) m))
    where
      go : (x : Bool) → holds_byte from to s (held b) ≡ x → Turns φ (b ∷ bs) (perhaps x s b bs)
          → (Turns φ bs (later s b bs) → BlocksAfter from to after (s + held b) bs (map φ bs) (map new_version (later s b bs)))
          → ¬ Memᴰ (record_id b) (map changed_id (later s b bs))
          → BlocksAfter from to after s (b ∷ bs) (φ b ∷ map φ bs) (map new_version (perhaps x s b bs))
      go true e t ih apart =
          let c = change_at after s b in
          let k = t.meant c (Memᴰ.head refl) in
          rw (t.here c (Memᴰ.head refl)) (rewritten {c = new_version c} (holds_true from to s (held b) e)
          (record { is = k; same_length = ap length k.text_is ∙ t.lengths c (Memᴰ.head refl); bytes_are = refl })
          (ih (record {
            here = λ d m. t.here d (Memᴰ.tail m);
            others = λ a m n. t.others a (Memᴰ.tail m)
                (λ z. ⊎_elim (λ y. once.0 (Memᴰ.cast (sym y) (Memᴰ.map record_id m))) n (Memᴰ.cases_cons z));
            meant = λ d m. t.meant d (Memᴰ.tail m);
            lengths = λ d m. t.lengths d (Memᴰ.tail m);
          })))
      go false e t ih apart = rw (t.others b (Memᴰ.head refl) apart) (as_before (holds_false from to s (held b) e) (ih (record {
        here = t.here;
        others = λ a m. t.others a (Memᴰ.tail m);
        meant = t.meant;
        lengths = t.lengths;
      })))

-- ---- what they are

module _ {from to : ℕ} {after : Bytes} where
  -- the same ids, in the same order
  pub after_ids : {s : ℕ} {bs cs ws : List Bytes} → BlocksAfter from to after s bs cs ws → map record_id cs ≡ map record_id bs
  after_ids no_more = refl
  after_ids (as_before e t) = rw (after_ids t)
  after_ids (rewritten e k t) = rw (k.is.id_is, after_ids t)

  -- the same lengths
  pub after_lengths : {s : ℕ} {bs cs ws : List Bytes} → BlocksAfter from to after s bs cs ws → map held cs ≡ map held bs
  after_lengths no_more = refl
  after_lengths (as_before e t) = rw (after_lengths t)
  after_lengths (rewritten e k t) = rw (k.same_length, after_lengths t)

  -- as many
  after_number : {s : ℕ} {bs cs ws : List Bytes} → BlocksAfter from to after s bs cs ws → length cs ≡ length bs
  after_number no_more = refl
  after_number (as_before e t) = ap suc (after_number t)
  after_number (rewritten e k t) = ap suc (after_number t)

  -- as many headers are followed to the block of any byte
  pub after_headers : {s : ℕ} {bs cs ws : List Bytes} → BlocksAfter from to after s bs cs ws → (p : ℕ) → headers_from by_bytes p cs ≡ headers_from by_bytes p bs
  unfolding headers_from
  after_headers no_more p = refl
  after_headers (as_before {b = b} e t) p = rw (after_number t, after_headers t (p - held b))
  after_headers (rewritten {b = b} e k t) p = rw (k.same_length, after_number t, after_headers t (p - held b))

-- ---- what they hold

-- where no byte is held, none is shared
apart : (from n s k : ℕ) → ¬ HoldsByte from (from + n) s k → Apart s k from n
apart from n s k h = record { no_common = λ i j f g q. h (i, f, omega arith, omega arith) }

-- two parts that stand one behind the other
part_add : (x : Bytes) (s n m : ℕ) → part x s n ++ part x (s + n) m ≡ part x s (n + m)
part_add x s n m = sym (take-add n m (drop s x) ∙ rw (drop-drop n s x))

module _ (before : Bytes) (offset : ℕ) (text : Bytes) (fits : offset + length text ≤ length before) where
  -- what the file will hold
  abbrev after : Bytes
  after = put before offset text

  -- the first of the blocks, and those behind it
  joined : (s : ℕ) (b : Bytes) (bs : List Bytes) (t u : Bytes) → t ≡ part after s (held b)
      → u ≡ part after (s + held b) (length (text_of by_bytes bs)) → t ++ u ≡ part after s (length (text_of by_bytes (b ∷ bs)))
  unfolding text_of
  joined s b bs t u p q = rw (p, q)
      (part_add after s (held b) (length (text_of by_bytes bs)) ∙ ap (part after s) (sym (length-append (by_bytes.text b) (text_of by_bytes bs))))

  module _ (front b : Bytes) (bs : List Bytes) (e : before ≡ front ++ text_of by_bytes (b ∷ bs)) where
    -- the rest of the file behind it
    behind : before ≡ (front ++ by_bytes.text b) ++ text_of by_bytes bs
    unfolding text_of
    behind = e ∙ sym (append_assoc front (by_bytes.text b) (text_of by_bytes bs))

    -- a block that holds no byte of the range holds its part of what the file will hold
    own : (s : ℕ) → length front ≡ s → ¬ HoldsByte offset (offset + length text) s (held b) → by_bytes.text b ≡ part after s (held b)
    unfolding text_of
    own s l h =
        sym (take-append_seam (by_bytes.text b) (text_of by_bytes bs))
        ∙ ap (take (held b)) (sym (drop_at front (by_bytes.text b ++ text_of by_bytes bs) s l) ∙ ap (drop s) (sym e))
        ∙ sym (part_outside before offset text fits s (held b) (apart offset (length text) s (held b) h))

  -- the blocks behind the first bytes of the file hold what comes behind them
  text_from : {s : ℕ} {bs cs ws : List Bytes} → BlocksAfter offset (offset + length text) after s bs cs ws → (front : Bytes) → length front ≡ s
      → before ≡ front ++ text_of by_bytes bs → text_of by_bytes cs ≡ part after s (length (text_of by_bytes bs))
  unfolding text_of
  text_from no_more front l e = refl
  text_from {s} (as_before {b = b} {bs = bs} {cs = cs} h t) front l e =
      joined s b bs (by_bytes.text b) (text_of by_bytes cs) (own front b bs e s l h)
      (text_from t (front ++ by_bytes.text b) (omega (arith, length-append front (by_bytes.text b))) (behind front b bs e))
  text_from {s} (rewritten {b = b} {c = c} {bs = bs} {cs = cs} h k t) front l e =
      joined s b bs (by_bytes.text c) (text_of by_bytes cs) k.is.text_is
      (text_from t (front ++ by_bytes.text b) (omega (arith, length-append front (by_bytes.text b))) (behind front b bs e))

-- "The range then reads as the new data, every other byte as before"
pub after_text : (old new ws : List Bytes) (offset : ℕ) (text : Bytes) → offset + length text ≤ length (text_of by_bytes old)
    → BlocksAfter offset (offset + length text) (put (text_of by_bytes old) offset text) 0 old new ws
    → text_of by_bytes new ≡ put (text_of by_bytes old) offset text
after_text old new ws offset text fits t =
    text_from (text_of by_bytes old) offset text fits t [] refl refl
    ∙ take_all (length (text_of by_bytes old)) (put (text_of by_bytes old) offset text)
    (omega (arith, length_put (text_of by_bytes old) offset text fits))
