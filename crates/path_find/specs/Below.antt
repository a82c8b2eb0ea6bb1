-- A path that names something below the root: any other is 8 where something is created, unlinked or put. Document 01, refusal 8, and T-01.
use Rattle.std.specs.Prelude.{ℕ, ◌≡◌, refl, Bool, true, false, not, ◌||◌, List, length}
use Rattle.std.proofs.Common.{sym, ap, ◌∙◌, arith, eq-eqb, ne_eqb}
use Rattle.format.specs.Bytes.{Bytes}
use Rattle.volume.specs.Path.{good_path, path_names}
use Rattle.path_names.specs.Names.{any_names}
use Rattle.path_names.specs.Walking.{names_none, names_some}
use Rattle.calls.specs.Create.{is_root}

-- 8: a bad path, or the root
abbrev pub not_below : Bytes → Bytes → Bool
not_below base path = not (good_path base path) || is_root (path_names base path)

root_or_named : (ns : List Bytes) → is_root ns ≡ not (any_names ns)
root_or_named ns = go (any_names ns) refl
  where
    go : (b : Bool) → any_names ns ≡ b → is_root ns ≡ not b
    go true a = ne_eqb (length ns) 0 (λ h. absurd (omega (arith, h, ap length (names_some ns a))))
    go false a = eq-eqb (length ns) 0 (ap length (names_none ns a))

module _ (base path : Bytes) where
  pub bad_path : good_path base path ≡ false → false ≡ not (not_below base path)
  bad_path e = rw e

  -- of a good path the names tell, wherever they are read
  pub by_names : good_path base path ≡ true → (ns : List Bytes) → ns ≡ path_names base path → any_names ns ≡ not (not_below base path)
  by_names e ns q = rw (e, ← q, root_or_named ns) (go (any_names ns))
    where
      go : (b : Bool) → b ≡ not (not b)
      go true = refl
      go false = refl

  -- the test r was passed, or failed
  module _ (r : Bool) (is : r ≡ not (not_below base path)) where
    pub below_named : r ≡ true → (not_below base path ≡ false) × (good_path base path ≡ true) × (any_names (path_names base path) ≡ true)
    below_named z = go (good_path base path) refl (sym z ∙ is)
      where
        go : (b : Bool) → good_path base path ≡ b → true ≡ not (not b || is_root (path_names base path))
            → (not_below base path ≡ false) × (good_path base path ≡ true) × (any_names (path_names base path) ≡ true)
        go true e t =
            let a : any_names (path_names base path) ≡ true = by_names e (path_names base path) refl ∙ sym is ∙ z in
            (rw (e, root_or_named (path_names base path), a), e, a)
        go false e t = let y : ◌≡◌ {A = ℕ} 0 1 = cc in absurd (omega arith)

    pub not_below_lem : r ≡ false → not_below base path ≡ true
    not_below_lem z = go (not_below base path) refl (sym z ∙ is)
      where
        go : (b : Bool) → not_below base path ≡ b → false ≡ not b → not_below base path ≡ true
        go true e t = e
        go false e t = let y : ◌≡◌ {A = ℕ} 0 1 = cc in absurd (omega arith)
