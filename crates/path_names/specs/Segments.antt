-- Laws of the segments of a path, from its front on.
use Prim.Native.Nat.{ℕ, suc, ◌+◌, ◌-◌, ◌≤◌, ◌<◌}
use Rattle.std.specs.Prelude.{◌≡◌, refl, List, [], ◌∷◌, Bool, true, false, cond, not, ◌&&◌, length, take, drop, eqb, leb, Some}
use Rattle.std.proofs.Common.{sym, eq-eqb, eqb-true, ◌∙◌, take_all, ne_eqb, leb-true, leb-false}
use native.Mathlib.Omega.{arith}
use Rattle.std.proofs.Math.Nat.{add-sub_cancel_left}
use Rattle.std.proofs.Math.ListN.{length-drop}
use Rattle.std.proofs.Math.Seq.{drop-drop}
use Rattle.std.proofs.lemmas.Bool.{eqb-false}
use Rattle.std.specs.List.{position_from, starts_with}
use Rattle.std.specs.Option.{unwrap_or}
use Rattle.format.specs.Bytes.{Bytes}
use Rattle.format.specs.Record.{name_good}
use Rattle.volume.specs.Lists.{all}
use Rattle.volume.specs.Path.{SLASH, longest_name, split_byte, segments, good_segment, good_segments, is_absolute}
use Rattle.path_names.specs.Names.{no_nul, to_slash, segment_end, segment_at, Ended}

-- ---- where a segment ends

-- the place of the first slash, or the end
first_slash : (l : Bytes) (i n : ℕ) → n ≡ i + length l → unwrap_or (position_from (λ b. eqb b SLASH) i l) n ≡ i + to_slash l
unfolding to_slash
first_slash [] i n e = e
first_slash (b ∷ l) i n e = go (eqb b SLASH) (first_slash l (i + 1) n (omega arith))
  where
    go : (t : Bool) → unwrap_or (position_from (λ b. eqb b SLASH) (i + 1) l) n ≡ i + 1 + to_slash l
        → unwrap_or (cond t (Some i) (position_from (λ b. eqb b SLASH) (i + 1) l)) n ≡ i + cond t 0 (suc (to_slash l))
    go true h = omega arith
    go false h = h ∙ omega arith

pub to_slash_is : (l : Bytes) → unwrap_or (position_from (λ b. eqb b SLASH) 0 l) (length l) ≡ to_slash l
to_slash_is l = first_slash l 0 (length l) (omega arith) ∙ omega arith

pub slash_within : (l : Bytes) → to_slash l ≤ length l
unfolding to_slash
slash_within [] = omega arith
slash_within (b ∷ l) = go (eqb b SLASH) (slash_within l)
  where
    go : (t : Bool) → to_slash l ≤ length l → cond t 0 (suc (to_slash l)) ≤ suc (length l)
    go true h = omega arith
    go false h = omega arith

pub ended : (s : Bytes) (from r : ℕ) → r ≡ segment_end s from → Ended s from r
unfolding segment_end
ended s from r e = record {
  end = e;
  onward = omega arith;
  within = λ h. omega (arith, slash_within (drop from s), length-drop from s);
}

-- ---- the first segment and the others

split_some : (b : ℕ) (ps : List Bytes) → 1 ≤ length (split_byte b ps)
unfolding split_byte
split_some b [] = go (eqb b SLASH)
  where
    go : (t : Bool) → 1 ≤ length {A = Bytes} (cond t ([] ∷ [] ∷ []) ((b ∷ []) ∷ []))
    go true = omega arith
    go false = omega arith
split_some b (p ∷ ps) = go (eqb b SLASH)
  where
    go : (t : Bool) → 1 ≤ length {A = Bytes} (cond t ([] ∷ p ∷ ps) ((b ∷ p) ∷ ps))
    go true = omega arith
    go false = omega arith

pub segments_some : (l : Bytes) → 1 ≤ length (segments l)
unfolding segments
segments_some [] = omega arith
segments_some (b ∷ l) = split_some b (segments l)

split_slash : (b : ℕ) (ps : List Bytes) → eqb b SLASH ≡ true → 1 ≤ length ps → split_byte b ps ≡ [] ∷ ps
unfolding split_byte
split_slash b [] e h = absurd (omega arith)
split_slash b (p ∷ ps) e h = rw e

split_other : (b : ℕ) (p : Bytes) (ps : List Bytes) → eqb b SLASH ≡ false → split_byte b (p ∷ ps) ≡ (b ∷ p) ∷ ps
unfolding split_byte
split_other b p ps e = rw e

segments_last : (l : Bytes) → length l ≤ to_slash l → segments l ≡ l ∷ []
unfolding segments to_slash
segments_last [] h = refl
segments_last (b ∷ l) h = go (eqb b SLASH) refl h (segments_last l)
  where
    go : (t : Bool) → eqb b SLASH ≡ t → suc (length l) ≤ cond t 0 (suc (to_slash l)) → (length l ≤ to_slash l → segments l ≡ l ∷ [])
        → split_byte b (segments l) ≡ (b ∷ l) ∷ []
    go true e h ih = absurd (omega arith)
    go false e h ih = rw (ih (omega arith)) (split_other b l [] e)

segments_more : (l : Bytes) → to_slash l < length l → segments l ≡ take (to_slash l) l ∷ segments (drop (suc (to_slash l)) l)
unfolding segments to_slash
segments_more [] h = absurd (omega arith)
segments_more (b ∷ l) h = go (eqb b SLASH) refl h (segments_more l)
  where
    go : (t : Bool) → eqb b SLASH ≡ t → cond t 0 (suc (to_slash l)) < suc (length l)
        → (to_slash l < length l → segments l ≡ take (to_slash l) l ∷ segments (drop (suc (to_slash l)) l))
        → split_byte b (segments l) ≡ take (cond t 0 (suc (to_slash l))) (b ∷ l) ∷ segments (drop (suc (cond t 0 (suc (to_slash l)))) (b ∷ l))
    go true e h ih = split_slash b (segments l) e (segments_some l)
    go false e h ih = rw (ih (omega arith)) (split_other b _ _ e)

module _ (s : Bytes) (at : ℕ) where
  end_there : segment_end s at - at ≡ to_slash (drop at s)
  unfolding segment_end
  end_there = rw add-sub_cancel_left

  pub last_segment : at ≤ length s → length s ≤ segment_end s at → segments (drop at s) ≡ segment_at s at ∷ []
  last_segment h e =
      let n : length (drop at s) ≤ segment_end s at - at = omega (arith, length-drop at s) in
      segments_last (drop at s) (omega (arith, end_there)) ∙ rw (take_all (segment_end s at - at) (drop at s) n)

  pub more_segments : at ≤ length s → segment_end s at < length s → segments (drop at s) ≡ segment_at s at ∷ segments (drop (segment_end s at + 1) s)
  unfolding segment_end
  more_segments h e =
      let n : at + to_slash (drop at s) + 1 ≡ at + suc (to_slash (drop at s)) = omega arith in
      segments_more (drop at s) (omega (arith, length-drop at s)) ∙ rw (n, drop-drop, add-sub_cancel_left)

-- ---- the first byte

pub absolute_is : (s : Bytes) → starts_with eqb s (SLASH ∷ []) ≡ is_absolute s
unfolding is_absolute
absolute_is [] = refl
absolute_is (b ∷ s) = go (eqb b SLASH) refl
  where
    go : (t : Bool) → eqb b SLASH ≡ t → (eqb SLASH b && true) ≡ t
    go true e = rw (eq-eqb SLASH b (sym (eqb-true b SLASH e)))
    go false e = rw (ne_eqb SLASH b (λ f. eqb-false b SLASH e (sym f)))

-- ---- good segments

good_cons : (p : Bytes) (ps : List Bytes) → good_segments (p ∷ ps) ≡ (good_segment p && good_segments ps)
unfolding good_segments all
good_cons p ps = refl

pub both : (a b : Bool) → (a && b) ≡ true → (a ≡ true) × (b ≡ true)
both true b e = (refl, e)
both false b e = let z : ◌≡◌ {A = ℕ} 0 1 = cc in absurd (omega arith)

pub good_parts : (p : Bytes) (ps : List Bytes) → good_segments (p ∷ ps) ≡ true → (good_segment p ≡ true) × (good_segments ps ≡ true)
good_parts p ps e = both (good_segment p) (good_segments ps) (sym (good_cons p ps) ∙ e)

-- a slash at the end has an empty segment behind it
pub empty_bad : (p : Bytes) → good_segments (p ∷ segments []) ≡ false
unfolding good_segments all good_segment segments
empty_bad p = go (good_segment p)
  where
    go : (t : Bool) → (t && false) ≡ false
    go true = refl
    go false = refl

module _ (s : Bytes) (at end : ℕ) (h : at ≤ length s) (d : Ended s at end) where
  pub good_ends : good_segment (take (end - at) (drop at s)) ≡ true → length s < end + 1 → good_segments (segments (drop at s)) ≡ true
  unfolding good_segments all
  good_ends g e = rw (last_segment s at h (omega (arith, d.end)), rw d.end at g)

  pub good_goes : good_segment (take (end - at) (drop at s)) ≡ true → end + 1 ≤ length s
      → good_segments (segments (drop at s)) ≡ good_segments (segments (drop (end + 1) s))
  unfolding good_segments all
  good_goes g e = rw (more_segments s at h (omega (arith, d.end)), rw d.end at g, d.end)

  pub good_stops : good_segment (take (end - at) (drop at s)) ≡ false → good_segments (segments (drop at s)) ≡ false
  good_stops g = go (leb (length s) (segment_end s at)) refl
    where
      go : (t : Bool) → leb (length s) (segment_end s at) ≡ t → good_segments (segments (drop at s)) ≡ false
      go true e = rw (last_segment s at h (leb-true _ _ e), good_cons, rw d.end at g)
      go false e = rw (more_segments s at h (leb-false _ _ e), good_cons, rw d.end at g)

-- ---- a good segment is a name that a record may bear

pub record NamesFit (n : Bytes) : Type 0 where
  pub some : 1 ≤ length n
  pub short : length n ≤ longest_name
  pub clear : no_nul n ≡ true

pub fit : (n : Bytes) → good_segment n ≡ true → NamesFit n
unfolding good_segment
fit n e =
    let p = both (leb 1 (length n) && leb (length n) longest_name) (no_nul n) e in
    let q = both (leb 1 (length n)) (leb (length n) longest_name) p.0 in
    record { some = leb-true _ _ q.0; short = leb-true _ _ q.1; clear = p.1 }

clean_front : (l : Bytes) → no_nul (take (to_slash l) l) ≡ true → name_good (take (to_slash l) l) ≡ true
unfolding to_slash all name_good
clean_front [] e = refl
clean_front (b ∷ l) e = go (eqb b SLASH) (eqb b 0) refl refl e (clean_front l)
  where
    go : (t z : Bool) → eqb b SLASH ≡ t → eqb b 0 ≡ z → no_nul (take (cond t 0 (suc (to_slash l))) (b ∷ l)) ≡ true
        → (no_nul (take (to_slash l) l) ≡ true → name_good (take (to_slash l) l) ≡ true)
        → name_good (take (cond t 0 (suc (to_slash l))) (b ∷ l)) ≡ true
    go true z p q e ih = refl
    go false true p q e ih = let x : (not (eqb b 0) && no_nul (take (to_slash l) l)) ≡ true = e in
        let y : false ≡ true = rw q at x in
        let z : ◌≡◌ {A = ℕ} 0 1 = cc in absurd (omega arith)
    go false false p q e ih = rw (p, q) (ih (rw q at e))

pub clean_segment : (s : Bytes) (at : ℕ) → no_nul (segment_at s at) ≡ true → name_good (segment_at s at) ≡ true
clean_segment s at e = rw (end_there s at) (clean_front (drop at s) (rw (end_there s at) at e))
