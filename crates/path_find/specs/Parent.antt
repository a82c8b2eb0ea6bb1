-- The last name of a path and those before it, a name at a time. Document 01, "create walks all but the last name".
use Rattle.std.specs.Prelude.{ℕ, ◌<◌, ◌≡◌, refl, true, false, cond, List, [], ◌∷◌, length, Result, Ok, Err, IfOk}
use Rattle.std.proofs.Math.Path.{sym}
use Rattle.std.proofs.Common.{ap, ◌∙◌, arith}
use Rattle.format.specs.Bytes.{Bytes}
use Rattle.volume.specs.View.{View}
use Rattle.volume.specs.Counting.{Volume}
use Rattle.volume.specs.Path.{good_path, path_names}
use Rattle.volume.specs.Tree.{Found, found, absent, walk, lookup_names}
use Rattle.path_names.specs.Names.{names_from, any_names, one_name, first_name, rest_names, Reached, Started, Named, Stepped}
use Rattle.path_names.specs.Walking.{still}
use Rattle.path_names.specs.declared.Walk.{Walk}
use Rattle.calls.specs.Create.{last_name, names_before}
use Rattle.path_walk.specs.Resolved.{step_of}
use Rattle.path_walk.specs.Laws.{walk_fails, walk_goes_on}
use Rattle.calls.specs.declared.Refusal.{Refusal}
use Rattle.path_find.specs.Below.{not_below}

-- a name that a record may bear
abbrev pub ShortName : Bytes → Type 0
ShortName name = length name < 256

-- ---- lists of names

last_one : (ns : List Bytes) → one_name ns ≡ true → (last_name ns ≡ first_name ns) × (names_before ns ≡ [])
unfolding one_name last_name names_before first_name
last_one [] e = let z : ◌≡◌ {A = ℕ} 0 1 = cc in absurd (omega arith)
last_one (n ∷ []) e = (refl, refl)
last_one (n ∷ m ∷ ns) e = let z : ◌≡◌ {A = ℕ} 0 1 = cc in absurd (omega arith)

last_more : (ns : List Bytes) → any_names ns ≡ true → one_name ns ≡ false
    → (last_name ns ≡ last_name (rest_names ns)) × (names_before ns ≡ first_name ns ∷ names_before (rest_names ns))
unfolding any_names one_name last_name names_before first_name rest_names
last_more [] a e = let z : ◌≡◌ {A = ℕ} 0 1 = cc in absurd (omega arith)
last_more (n ∷ []) a e = let z : ◌≡◌ {A = ℕ} 0 1 = cc in absurd (omega arith)
last_more (n ∷ m ∷ ns) a e = (refl, refl)

before_parts : (ns : List Bytes) → any_names ns ≡ true → one_name ns ≡ false
    → (any_names (names_before ns) ≡ true) × (first_name (names_before ns) ≡ first_name ns) × (rest_names (names_before ns) ≡ names_before (rest_names ns))
unfolding any_names first_name rest_names
before_parts ns a e = let q = (last_more ns a e).1 in (rw q, rw q, rw q)

-- ---- the loop to the last name

-- at the cursor w a name is left, and the last of those left is that of the path
pub record Toward (base path : Bytes) (w : Walk) : Type 0 where
  pub reached : Reached base path w
  pub any : any_names (names_from base path w) ≡ true
  pub last : last_name (names_from base path w) ≡ last_name (path_names base path)

module _ (base path : Bytes) (w : Walk) where
  pub toward_begins : any_names (path_names base path) ≡ true → Started base path w → Toward base path w
  toward_begins a s = record { reached = s.reached; any = rw s.names a; last = ap last_name s.names }

  module _ (t : Toward base path w) where
    pub toward_on : one_name (names_from base path w) ≡ false → (r : Walk) → Stepped base path w r → Toward base path r
    toward_on e r s = record {
      reached = s.reached;
      any = still base path w r t.any s e;
      last = ap last_name s.rest ∙ sym (last_more (names_from base path w) t.any e).0 ∙ t.last;
    }

    pub toward_ends : one_name (names_from base path w) ≡ true → (n : Bytes) → Named base path w n → (n ≡ last_name (path_names base path)) × ShortName n
    toward_ends e n k = (k.first ∙ sym (last_one (names_from base path w) e).0 ∙ t.last, omega (arith, k.short))

-- ---- the walk along the names before it

-- at the cursor w in the directory d, the names left but the last lead where all of them do
abbrev pub Along : View ℕ → Volume ℕ → Bytes → Bytes → Walk → ℕ → Type 0
Along F v base path w d = walk F v d (names_before (names_from base path w)) ≡ lookup_names F v (names_before (path_names base path))

module _ (F : View ℕ) (v : Volume ℕ) (base path : Bytes) (w : Walk) where
  pub along_begins : Started base path w → Along F v base path w 0
  unfolding lookup_names
  along_begins s = rw s.names

  module _ (d : ℕ) (a : Along F v base path w d) where
    pub along_ends : one_name (names_from base path w) ≡ true → found d ≡ lookup_names F v (names_before (path_names base path))
    unfolding walk
    along_ends e = sym (rw (last_one (names_from base path w) e).1) ∙ a

    -- s is the step by the next name
    module _ (any : any_names (names_from base path w) ≡ true) (e : one_name (names_from base path w) ≡ false) (n : Bytes) (k : Named base path w n)
        (s : Found) (is : s ≡ step_of F v d n) where
      first : n ≡ first_name (names_before (names_from base path w))
      first = k.first ∙ sym (before_parts (names_from base path w) any e).1

      pub along_fails : (j : ℕ) → s ≡ absent j → s ≡ lookup_names F v (names_before (path_names base path))
      along_fails j q = walk_fails F v d _ (before_parts (names_from base path w) any e).0 n first s is j q ∙ a

      pub along_on : (i : ℕ) → s ≡ found i → (r : Walk) → Stepped base path w r → Along F v base path r i
      along_on i q r t =
          walk_goes_on F v d _ (before_parts (names_from base path w) any e).0 n first s is i q _
          (ap names_before t.rest ∙ sym (before_parts (names_from base path w) any e).2)
          ∙ a

-- ---- where the last name is to stand

-- 8, and then the walk
abbrev pub parent_of : {A : Type 0} → View A → Volume A → Bytes → Bytes → Found
parent_of F v base path = cond (not_below base path) (absent 8) (lookup_names F v (names_before (path_names base path)))

-- something was found only for a good path that has a last name
abbrev pub Below : Bytes → Bytes → Result ℕ Refusal → Type 0
Below base path r = IfOk r (λ i. (good_path base path ≡ true) × (any_names (path_names base path) ≡ true))

pub below_any : (base path : Bytes) (r : Result ℕ Refusal) → good_path base path ≡ true → any_names (path_names base path) ≡ true → Below base path r
below_any base path (Ok i) g a = (g, a)
below_any base path (Err r) g a = tt
