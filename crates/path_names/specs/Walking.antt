-- Laws of the names still to come: those that callers cite, and those of the cursor's code.
use Rattle.std.specs.Prelude.{ℕ, ◌+◌, ◌≤◌, ◌<◌, Bool, false, ◌&&◌, drop, eqb, ltb, leb}
use Rattle.std.proofs.Math.Path.{◌≡◌, refl, sym}
use Rattle.std.proofs.Common.{ap, ◌∙◌, arith, drop_of_length-le, lt-ltb, le-ltb, ltb-true, ltb-false, leb-true, leb-false, eqb-true}
use mathlib.Core.List.{List, [], ◌∷◌, ◌++◌}
use Rattle.std.proofs.Math.Bool.{true}
use Rattle.std.proofs.Math.ListN.{length}
use Rattle.std.proofs.lemmas.Bool.{eqb-false}
use Rattle.format.specs.Bytes.{Bytes}
use Rattle.volume.specs.Lists.{all}
use Rattle.volume.specs.Path.{longest_path, segments, good_segment, good_segments, is_absolute, absolute_names, good_absolute, good_relative, good_path, path_names}
use Rattle.path_names.specs.Names.{segment_end, segment_at, segments_from, names_from, any_names, one_name, first_name, rest_names, Good, ReachedInBase, Started, Named, Stepped}
use Rattle.path_names.specs.Segments.{both, ended, segments_some, last_segment, more_segments, good_parts, empty_bad, fit, clean_segment}
use Rattle.path_names.specs.declared.Walk.{Walk}
use Rattle.path_names.specs.declared.Walk.TheVariants.{InBase, InPath}

-- ---- for callers: lists of names

pub names_none : (l : List Bytes) → any_names l ≡ false → l ≡ []
unfolding any_names
names_none [] e = refl
names_none (n ∷ l) e = let z : ◌≡◌ {A = ℕ} 0 1 = cc in absurd (omega arith)

pub names_some : (l : List Bytes) → any_names l ≡ true → l ≡ first_name l ∷ rest_names l
unfolding any_names first_name rest_names
names_some [] e = let z : ◌≡◌ {A = ℕ} 0 1 = cc in absurd (omega arith)
names_some (n ∷ l) e = refl

-- the last name
pub names_one : (l : List Bytes) → one_name l ≡ true → l ≡ first_name l ∷ []
unfolding one_name first_name
names_one [] e = let z : ◌≡◌ {A = ℕ} 0 1 = cc in absurd (omega arith)
names_one (n ∷ []) e = refl
names_one (n ∷ m ∷ l) e = let z : ◌≡◌ {A = ℕ} 0 1 = cc in absurd (omega arith)

pub one_any : (l : List Bytes) → one_name l ≡ true → any_names l ≡ true
unfolding one_name any_names
one_any [] e = let z : ◌≡◌ {A = ℕ} 0 1 = cc in absurd (omega arith)
one_any (n ∷ l) e = refl

-- behind a name that is not the last there is another
pub rest_any : (l : List Bytes) → any_names l ≡ true → one_name l ≡ false → any_names (rest_names l) ≡ true
unfolding one_name any_names rest_names
rest_any [] e f = let z : ◌≡◌ {A = ℕ} 0 1 = cc in absurd (omega arith)
rest_any (n ∷ []) e f = let z : ◌≡◌ {A = ℕ} 0 1 = cc in absurd (omega arith)
rest_any (n ∷ m ∷ l) e f = refl

-- ---- for callers: one step of a walk

module _ (base path : Bytes) (w r : Walk) (any : any_names (names_from base path w) ≡ true) (s : Stepped base path w r) where
  pub walked : (name : Bytes) → Named base path w name → names_from base path w ≡ name ∷ names_from base path r
  walked name n = names_some (names_from base path w) any ∙ rw (n.first, s.rest)

  -- the measure of a loop over the names
  pub fewer : length (names_from base path r) < length (names_from base path w)
  fewer = omega (arith, ap length (names_some (names_from base path w) any), ap length s.rest)

  pub still : one_name (names_from base path w) ≡ false → any_names (names_from base path r) ≡ true
  still f = rw s.rest (rest_any (names_from base path w) any f)

-- ---- segments from a place on

pub from_inside : (s : Bytes) (at : ℕ) → at < length s → segments_from s at ≡ segments (drop at s)
unfolding segments_from
from_inside s at h = rw (lt-ltb at (length s) h)

pub from_end : (s : Bytes) (at : ℕ) → length s ≤ at → segments_from s at ≡ []
unfolding segments_from
from_end s at h = rw (le-ltb at (length s) h)

module _ (s : Bytes) (at : ℕ) where
  -- a good path has no slash at its end
  slash_inside : at < length s → good_segments (segments_from s at) ≡ true → segment_end s at < length s → segment_end s at + 1 < length s
  slash_inside h g e = go (leb (length s) (segment_end s at + 1)) refl
    where
      go : (t : Bool) → leb (length s) (segment_end s at + 1) ≡ t → segment_end s at + 1 < length s
      go true f =
          let q : segments_from s at ≡ segment_at s at ∷ segments [] =
          from_inside s at h ∙ more_segments s at (omega arith) e ∙ rw (drop_of_length-le s (leb-true _ _ f)) in
          let x : false ≡ true = sym (empty_bad (segment_at s at)) ∙ ap good_segments (sym q) ∙ g in
          let z : ◌≡◌ {A = ℕ} 0 1 = cc in
          absurd (omega arith)
      go false f = leb-false _ _ f

  -- so that each name is followed by the names behind its slash
  from_step : at < length s → good_segments (segments_from s at) ≡ true → segments_from s at ≡ segment_at s at ∷ segments_from s (segment_end s at + 1)
  from_step h g = go (leb (length s) (segment_end s at)) refl
    where
      go : (t : Bool) → leb (length s) (segment_end s at) ≡ t → segments_from s at ≡ segment_at s at ∷ segments_from s (segment_end s at + 1)
      go true e =
          let n = leb-true _ _ e in
          from_inside s at h ∙ last_segment s at (omega arith) n ∙ rw (from_end s (segment_end s at + 1) (omega arith))
      go false e =
          let n = leb-false _ _ e in
          from_inside s at h ∙ more_segments s at (omega arith) n ∙ rw (from_inside s (segment_end s at + 1) (slash_inside h g n))

  segment_good : at < length s → good_segments (segments_from s at) ≡ true → good_segment (segment_at s at) ≡ true
  segment_good h g = (good_parts (segment_at s at) (segments_from s (segment_end s at + 1)) (rw (from_step h g) at g)).0

  good_behind : at < length s → Good s at → Good s (segment_end s at + 1)
  good_behind h g = record {
    short = g.short;
    good = (good_parts (segment_at s at) (segments_from s (segment_end s at + 1)) (rw (from_step h g.good) at g.good)).1;
  }

  pub from_any : at < length s → any_names (segments_from s at) ≡ true
  unfolding any_names
  from_any h = go (segments_from s at) (rw (from_inside s at h) (segments_some (drop at s)))
    where
      go : (l : List Bytes) → 1 ≤ length l → any_names l ≡ true
      go [] h = absurd (omega arith)
      go (n ∷ l) h = refl

  pub from_none : length s ≤ at → any_names (segments_from s at) ≡ false
  unfolding any_names
  from_none h = rw (from_end s at h)

-- ---- the names of a good path

pub absolute_names_lem : (s : Bytes) → absolute_names s ≡ segments_from s 1
unfolding absolute_names
absolute_names_lem [] = sym (from_end [] 1 (omega arith))
absolute_names_lem (b ∷ []) = sym (from_end (b ∷ []) 1 (omega arith))
absolute_names_lem (b ∷ c ∷ l) = sym (from_inside (b ∷ c ∷ l) 1 (omega arith))

pub root_good : (s : Bytes) → length s ≤ 1 → good_segments (absolute_names s) ≡ true
unfolding good_segments all
root_good s h = rw (absolute_names_lem s, from_end s 1 h)

pub names_behind : (s : Bytes) → 1 < length s → absolute_names s ≡ segments (drop 1 s)
names_behind s h = absolute_names_lem s ∙ from_inside s 1 h

absolute_good : (s : Bytes) → good_absolute s ≡ true → Good s 1
unfolding good_absolute
absolute_good s e =
    let p = both (is_absolute s && leb (length s) longest_path) (good_segments (absolute_names s)) e in
    record { short = leb-true _ _ (both (is_absolute s) (leb (length s) longest_path) p.0).1; good = rw (sym (absolute_names_lem s)) p.1 }

-- "" is bad
relative_some : (s : Bytes) → good_relative s ≡ true → 0 < length s
unfolding good_relative good_segments all good_segment segments
relative_some [] e = let z : ◌≡◌ {A = ℕ} 0 1 = cc in absurd (omega arith)
relative_some (b ∷ l) e = omega arith

relative_good : (s : Bytes) → good_relative s ≡ true → Good s 0
unfolding good_relative
relative_good s e =
    let p = both (leb (length s) longest_path) (good_segments (segments s)) e in
    record { short = leb-true _ _ p.0; good = rw (from_inside s 0 (relative_some s e)) p.1 }

module _ (base path : Bytes) (good : good_path base path ≡ true) where
  pub started_absolute : is_absolute path ≡ true → Started base path (InPath 1)
  unfolding good_path path_names names_from
  started_absolute a = record { reached = absolute_good path (rw a at good); names = rw a (sym (absolute_names_lem path)) }

  relative : is_absolute path ≡ false → (good_absolute base ≡ true) × (good_relative path ≡ true)
  unfolding good_path
  relative a = both (good_absolute base) (good_relative path) (rw a at good)

  pub started_below_root : is_absolute path ≡ false → length base ≤ 1 → Started base path (InPath 0)
  unfolding path_names names_from
  started_below_root a h = record {
    reached = relative_good path (relative a).1;
    names = rw (a, absolute_names_lem base, from_end base 1 h) (from_inside path 0 (relative_some path (relative a).1));
  }

  pub started_below : is_absolute path ≡ false → 1 < length base → Started base path (InBase 1)
  unfolding path_names names_from
  started_below a h =
      let p = relative a in
      let n = relative_some path p.1 in
      record {
        reached = record { inside = h; base_good = absolute_good base p.0; path_some = n; path_good = relative_good path p.1 };
        names = rw (a, absolute_names_lem base, from_inside path 0 n);
      }

-- ---- the cursor

one_last : (n : Bytes) (l : List Bytes) → any_names l ≡ false → one_name (n ∷ l) ≡ true
unfolding one_name
one_last n l e = rw (names_none l e)

one_more : (n : Bytes) (l : List Bytes) → any_names l ≡ true → one_name (n ∷ l) ≡ false
unfolding one_name
one_more n l e = rw (names_some l e)

any_append : (l m : List Bytes) → any_names m ≡ true → any_names (l ++ m) ≡ true
unfolding any_names
any_append [] m e = e
any_append (n ∷ l) m e = refl

module _ (base path : Bytes) (w : Walk) where
  named : (s : Bytes) (at : ℕ) (ns : List Bytes) → names_from base path w ≡ segment_at s at ∷ ns → good_segment (segment_at s at) ≡ true
      → Named base path w (segment_at s at)
  unfolding first_name
  named s at ns e g =
      let f = fit (segment_at s at) g in
      record { first = sym (ap first_name e); some = f.some; short = f.short; clean = clean_segment s at f.clear }

  rest_of : (n : Bytes) (ns : List Bytes) → names_from base path w ≡ n ∷ ns → ns ≡ rest_names (names_from base path w)
  unfolding rest_names
  rest_of n ns e = sym (ap rest_names e)

-- the next name is in the path
module _ (base path : Bytes) (at : ℕ) (r : Good path at) where
  here : names_from base path (InPath at) ≡ segments_from path at
  unfolding names_from
  here = refl

  pub path_any : any_names (names_from base path (InPath at)) ≡ ltb at (length path)
  path_any = go (ltb at (length path)) refl
    where
      go : (t : Bool) → ltb at (length path) ≡ t → any_names (names_from base path (InPath at)) ≡ t
      go true e = rw here (from_any path at (ltb-true _ _ e))
      go false e = rw here (from_none path at (ltb-false _ _ e))

  pub path_inside : any_names (names_from base path (InPath at)) ≡ true → at < length path
  path_inside any = ltb-true _ _ (sym path_any ∙ any)

  pub path_none : length path ≤ at → one_name (names_from base path (InPath at)) ≡ false
  unfolding one_name
  path_none h = rw (here, from_end path at h)

  module _ (h : at < length path) where
    path_step : names_from base path (InPath at) ≡ segment_at path at ∷ segments_from path (segment_end path at + 1)
    path_step = here ∙ from_step path at h r.good

    pub path_last : one_name (names_from base path (InPath at)) ≡ eqb (segment_end path at) (length path)
    path_last = go (eqb (segment_end path at) (length path)) refl
      where
        bound : segment_end path at ≤ length path
        bound = (ended path at (segment_end path at) refl).within (omega arith)

        go : (t : Bool) → eqb (segment_end path at) (length path) ≡ t → one_name (names_from base path (InPath at)) ≡ t
        go true e =
            let n = eqb-true (segment_end path at) (length path) e in
            rw path_step (one_last _ _ (from_none path (segment_end path at + 1) (omega arith)))
        go false e =
            let m : segment_end path at < length path = omega (arith, bound, eqb-false (segment_end path at) (length path) e) in
            rw path_step (one_more _ _ (from_any path (segment_end path at + 1) (slash_inside path at h r.good m)))

    pub path_named : Named base path (InPath at) (segment_at path at)
    path_named = named base path (InPath at) path at _ path_step (segment_good path at h r.good)

    pub path_stepped : Stepped base path (InPath at) (InPath (segment_end path at + 1))
    unfolding names_from
    path_stepped = record { reached = good_behind path at h r; rest = rest_of base path (InPath at) _ _ path_step }

-- the next name is in the base
module _ (base path : Bytes) (at : ℕ) (r : ReachedInBase base path at) where
  base_step : names_from base path (InBase at) ≡ segment_at base at ∷ (segments_from base (segment_end base at + 1) ++ segments_from path 0)
  unfolding names_from
  base_step = rw (from_step base at r.inside r.base_good.good)

  pub base_any : any_names (names_from base path (InBase at)) ≡ true
  unfolding any_names
  base_any = rw base_step

  -- the path has a name too
  pub base_last : one_name (names_from base path (InBase at)) ≡ false
  base_last = rw base_step (one_more _ _ (any_append (segments_from base (segment_end base at + 1)) _ (from_any path 0 r.path_some)))

  pub base_named : Named base path (InBase at) (segment_at base at)
  base_named = named base path (InBase at) base at _ base_step (segment_good base at r.inside r.base_good.good)

  pub base_left : length base ≤ segment_end base at + 1 → Stepped base path (InBase at) (InPath 0)
  unfolding names_from
  base_left h = record {
    reached = r.path_good;
    rest = rest_of base path (InBase at) _ _ (rw (from_end base (segment_end base at + 1) h) at base_step);
  }

  pub base_stepped : segment_end base at + 1 < length base → Stepped base path (InBase at) (InBase (segment_end base at + 1))
  unfolding names_from
  base_stepped h = record {
    reached = record { inside = h; base_good = good_behind base at r.inside r.base_good; path_some = r.path_some; path_good = r.path_good };
    rest = rest_of base path (InBase at) _ _ base_step;
  }
