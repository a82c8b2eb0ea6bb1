-- Places for several blocks, one after the other, before any is stored. Document 01, "Create, append, unlink": "all pieces or none".
use Rattle.std.specs.Prelude.{ℕ, suc, ◌+◌, ◌<◌, ◌≡◌, refl, Bool, true, false, List, [], ◌∷◌, ◌++◌, map, length, take, drop, get_or, set}
use Rattle.std.proofs.Math.Path.{sym, ap}
use Rattle.std.proofs.Common.{subst, ◌∙◌, append-nil, append_assoc, arith, add-one, length-set, take-suc-set}
use Rattle.std.specs.Prelude.{Option, None, Some}
use Rattle.std.proofs.Math.Option.{Option as Maybe, none, some}
use Rattle.format.specs.Bytes.{Bytes}
use Rattle.format.specs.Record.{block}
use Rattle.volume.specs.Lists.{bind}
use Rattle.volume_laws.specs.Map.{over}
use Rattle.calls.specs.Areas.{file_areas}
use Rattle.calls.specs.Storing.{Space, Fit, Store, spaces, first_fit, prepend, place_all}
use Rattle.calls.specs.declared.Descriptor.{Descriptor}
use Rattle.mount_state.specs.State.{Safe, Holds}
use Rattle.mount_state.specs.declared.Mounted.{Mounted}
use Rattle.write_room.specs.Spaces.{spaces_of, fit_of, Each, OfParts, EndsWithin, Within, FitIn, fit_each}
use Rattle.write_room.specs.Rows.{row_spaces, rows_within, rows_are}

abbrev pub place_then : ℕ → Maybe (List ℕ) → Maybe (List ℕ)
place_then q none = none
place_then q (some qs) = some (q ∷ qs)

-- where blocks with so many bytes of data go, one after the other
unfoldable pub places_for : List Space → List ℕ → Maybe (List ℕ)
places_for ss [] = some []
places_for ss (n ∷ ns) = bind (first_fit (block.header_size + n) ss) (λ f. place_then f.place (places_for f.left ns))

-- P holds of where every such block lies
unfoldable pub EachAt : (Space → Type 0) → List ℕ → List ℕ → Type 0
EachAt P [] qs = Unit {0}
EachAt P (n ∷ ns) [] = Unit {0}
EachAt P (n ∷ ns) (q ∷ qs) = P (record { from = q; end = q + (block.header_size + n) }) × EachAt P ns qs

-- what holds of every space holds of where the blocks go, and there is a place for each
abbrev pub PlacesIn : (Space → Type 0) → List ℕ → List ℕ → Type 0
PlacesIn P ns qs = EachAt P ns qs × (length qs ≡ length ns)

pub places_each : (P : Space → Type 0) → OfParts P → (ss : List Space) (ns qs : List ℕ) → places_for ss ns ≡ some qs → Each P ss → PlacesIn P ns qs
unfolding places_for EachAt
places_each P c ss [] qs e w = (tt, ap length (sym (some_is e)))
  where
    some_is : {l : List ℕ} → some [] ≡ some l → [] ≡ l
    some_is q = cc
places_each P c ss (n ∷ ns) qs e w =
    go (first_fit (block.header_size + n) ss) (λ g q. fit_each P c (block.header_size + n) ss g q w) (λ u rs q v. places_each P c u ns rs q v) e
  where
    then : (q : ℕ) (o : Maybe (List ℕ)) → P (record { from = q; end = q + (block.header_size + n) })
        → ((rs : List ℕ) → o ≡ some rs → PlacesIn P ns rs) → place_then q o ≡ some qs → PlacesIn P (n ∷ ns) qs
    then q none h ih z = let y : ◌≡◌ {A = ℕ} 0 1 = cc in absurd (omega arith)
    then q (some rs) h ih z =
        let y : q ∷ rs ≡ qs = cc in
        let i = ih rs refl in
        subst (PlacesIn P (n ∷ ns)) y ((h, i.0), ap suc i.1)

    go : (o : Maybe Fit) → ((g : Fit) → o ≡ some g → FitIn P (block.header_size + n) g)
        → ((u : List Space) (rs : List ℕ) → places_for u ns ≡ some rs → Each P u → PlacesIn P ns rs)
        → bind o (λ g. place_then g.place (places_for g.left ns)) ≡ some qs → PlacesIn P (n ∷ ns) qs
    go none h ih z = let y : ◌≡◌ {A = ℕ} 0 1 = cc in absurd (omega arith)
    go (some g) h ih z = let f = h g refl in then g.place (places_for g.left ns) f.0 (λ rs q. ih g.left rs q f.1) z

-- as many places as blocks, and within what the spaces lie within
pub record Planned (m : ℕ) (ns qs : List ℕ) : Type 0 where
  pub ends : EachAt (EndsWithin m) ns qs
  pub count : length qs ≡ length ns

abbrev pub PlannedAt : ℕ → List ℕ → Maybe (List ℕ) → Type 0
PlannedAt m ns none = Unit {0}
PlannedAt m ns (some qs) = Planned m ns qs

places_planned : (m : ℕ) (ss : List Space) (ns : List ℕ) → Within m ss → PlannedAt m ns (places_for ss ns)
places_planned m ss ns w = go (places_for ss ns) (λ qs e. places_each (EndsWithin m) (λ s t h g k. omega arith) ss ns qs e w)
  where
    go : (o : Maybe (List ℕ)) → ((qs : List ℕ) → o ≡ some qs → PlacesIn (EndsWithin m) ns qs) → PlannedAt m ns o
    go none h = tt
    go (some qs) h = let k = h qs refl in record { ends = k.0; count = k.1 }

-- records at their places
unfoldable pub pair_stores : List ℕ → List Bytes → List Store
pair_stores [] bs = []
pair_stores (q ∷ qs) [] = []
pair_stores (q ∷ qs) (b ∷ bs) = record { place = q; bytes = b } ∷ pair_stores qs bs

-- places behind those that are needed do not matter
pub pairs_needed : (qs : List ℕ) (bs : List Bytes) → pair_stores (take (length bs) qs) bs ≡ pair_stores qs bs
unfolding pair_stores
pairs_needed [] [] = refl
pairs_needed [] (b ∷ bs) = refl
pairs_needed (q ∷ qs) [] = refl
pairs_needed (q ∷ qs) (b ∷ bs) = ap (λ (l : List Store). record { place = q; bytes = b } ∷ l) (pairs_needed qs bs)

pub each_needed : (P : Space → Type 0) (ns qs : List ℕ) → EachAt P ns (take (length ns) qs) → EachAt P ns qs
unfolding EachAt
each_needed P [] qs h = tt
each_needed P (n ∷ ns) [] h = tt
each_needed P (n ∷ ns) (q ∷ qs) h = (h.0, each_needed P ns qs h.1)

-- blocks with so much data, placed, are these stores
pub blocks_paired : (ss : List Space) (bs : List Bytes) (ns : List ℕ) → map length bs ≡ map (λ n. block.header_size + n) ns
    → place_all ss bs ≡ over (λ qs. pair_stores qs bs) (places_for ss ns)
unfolding place_all places_for pair_stores
blocks_paired ss [] [] e = refl
blocks_paired ss [] (n ∷ ns) e = absurd (omega (arith, ap length e))
blocks_paired ss (b ∷ bs) [] e = absurd (omega (arith, ap length e))
blocks_paired ss (b ∷ bs) (n ∷ ns) e =
    let z : length b ≡ block.header_size + n = ap (λ l. get_or l 0 0) e in
    rw z (go (first_fit (block.header_size + n) ss) (λ t. blocks_paired t bs ns (ap (drop 1) e)))
  where
    then : (q : ℕ) (o : Maybe (List ℕ))
        → prepend (record { place = q; bytes = b }) (over (λ qs. pair_stores qs bs) o) ≡ over (λ qs. pair_stores qs (b ∷ bs)) (place_then q o)
    then q none = refl
    then q (some qs) = refl

    go : (o : Maybe Fit) → ((t : List Space) → place_all t bs ≡ over (λ qs. pair_stores qs bs) (places_for t ns))
        → bind o (λ g. prepend (record { place = g.place; bytes = b }) (place_all g.left bs))
        ≡ over (λ qs. pair_stores qs (b ∷ bs)) (bind o (λ g. place_then g.place (places_for g.left ns)))
    go none ih = refl
    go (some g) ih = rw (ih g.left) (then g.place (places_for g.left ns))

-- what an answer says of places that were sought
abbrev pub planned_of : Bool → List ℕ → Maybe (List ℕ)
planned_of true qs = some qs
planned_of false qs = none

pub planned_some : (o : Maybe (List ℕ)) (r : Bool) (qs : List ℕ) → o ≡ planned_of r qs → r ≡ true → o ≡ some qs
planned_some o r qs e t = e ∙ ap (λ (b : Bool). planned_of b qs) t

pub planned_none : (o : Maybe (List ℕ)) (r : Bool) (qs : List ℕ) → o ≡ planned_of r qs → r ≡ false → o ≡ none
planned_none o r qs e t = e ∙ ap (λ (b : Bool). planned_of b qs) t

pub planned_inside : (m : ℕ) (ns : List ℕ) (r : Bool) (qs : List ℕ) → PlannedAt m ns (planned_of r qs) → r ≡ true → Planned m ns qs
planned_inside m ns r qs p t = subst (λ (b : Bool). PlannedAt m ns (planned_of b qs)) t p

-- ---- the loop that takes the places

-- places behind others
abbrev pub behind : List ℕ → Maybe (List ℕ) → Maybe (List ℕ)
behind l none = none
behind l (some m) = some (l ++ m)

-- i blocks have their places, and those to come make the whole
pub record Planning (ns coming es fs₀ qs₀ fs qs : List ℕ) (i : ℕ) : Type 0 where
  pub starts_long : length fs ≡ length fs₀
  pub places_long : length qs ≡ length qs₀
  pub left : behind (take i qs) (places_for (spaces_of fs es) coming) ≡ places_for (spaces_of fs₀ es) ns

pub planning_begins : (ns es fs qs : List ℕ) → Planning ns ns es fs qs fs qs 0
planning_begins ns es fs qs = record { starts_long = refl; places_long = refl; left = go (places_for (spaces_of fs es) ns) }
  where
    go : (o : Maybe (List ℕ)) → behind [] o ≡ o
    go none = refl
    go (some m) = refl

module _ {ns coming es fs₀ qs₀ fs qs : List ℕ} {i : ℕ} (g : Planning ns coming es fs₀ qs₀ fs qs i) where
  -- the next block, of n bytes
  module _ (n : ℕ) (later : List ℕ) (more : coming ≡ n ∷ later)
      (r : Option ℕ) (fs' : List ℕ) (took : first_fit (block.header_size + n) (spaces_of fs es) ≡ fit_of r (spaces_of fs' es)) where
    tried : behind (take i qs) (bind (fit_of r (spaces_of fs' es)) (λ f. place_then f.place (places_for f.left later)))
        ≡ places_for (spaces_of fs₀ es) ns
    unfolding places_for
    tried =
        let v : behind (take i qs) (bind (first_fit (block.header_size + n) (spaces_of fs es)) (λ f. place_then f.place (places_for f.left later)))
        ≡ places_for (spaces_of fs₀ es) ns =
        rw more at g.left in
        rw took at v

    pub planning_fails : r ≡ None → places_for (spaces_of fs₀ es) ns ≡ none
    planning_fails q = sym (rw q at tried)

    pub planning_on : i < length qs → length fs' ≡ length fs → (q : ℕ) → r ≡ Some q → Planning ns later es fs₀ qs₀ fs' (set qs i q) (i + 1)
    planning_on h l q a = record {
      starts_long = l ∙ g.starts_long;
      places_long = length-set qs i q ∙ g.places_long;
      left = go (places_for (spaces_of fs' es) later) (rw a at tried);
    }
      where
        go : (o : Maybe (List ℕ)) → behind (take i qs) (place_then q o) ≡ places_for (spaces_of fs₀ es) ns
            → behind (take (i + 1) (set qs i q)) o ≡ places_for (spaces_of fs₀ es) ns
        go none w = w
        go (some m) w =
            let b : take (i + 1) (set qs i q) ++ m ≡ take i qs ++ (q ∷ m) =
            rw (add-one, take-suc-set qs i q h) (append_assoc (take i qs) (q ∷ []) m) in
            ap some b ∙ w

  pub planning_ends : coming ≡ [] → places_for (spaces_of fs₀ es) ns ≡ some (take i qs)
  unfolding places_for
  planning_ends z =
      let w : some (take i qs ++ []) ≡ places_for (spaces_of fs₀ es) ns = rw z at g.left in
      sym w ∙ ap some (append-nil (take i qs))

-- places in the free space of a mounted volume, by its rows
pub rows_planned : {image : Bytes} {m : Mounted} {t : List ℕ} → Safe image m t → (fs es ns : List ℕ) (r : Bool) (qs : List ℕ)
    → spaces_of fs es ≡ row_spaces t 0 m.files → places_for (spaces_of fs es) ns ≡ planned_of r qs
    → ((ds : List Descriptor) → Holds image ds m t → places_for (spaces image (file_areas image ds)) ns ≡ planned_of r qs)
    × PlannedAt (length image) ns (planned_of r qs)
rows_planned {image} {m} {t} s fs es ns r qs e q =
    let here : places_for (row_spaces t 0 m.files) ns ≡ planned_of r qs = rw e at q in (
      (λ ds h. ap (λ (ss : List Space). places_for ss ns) (sym (rows_are s h)) ∙ here),
      subst (PlannedAt (length image) ns) here (places_planned (length image) (row_spaces t 0 m.files) ns (rows_within s)),
    )
