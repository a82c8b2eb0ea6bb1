-- The source area of a collection. Document 02, T-14.
use Rattle.std.specs.Prelude.{◌≡◌, true, false, ℕ}
use Rattle.std.proofs.Math.Path.{refl}
use Rattle.std.proofs.Common.{◌∙◌, inl, inr, arith, T_not}
use Rattle.std.proofs.Math.Bool.{not}
use Rattle.std.proofs.Math.Option.{none, some}
use mathlib.Core.List.Memᴰ
use mathlib.Core.List.{List, [], ◌∷◌, ◌++◌, Memᴰ}
use Rattle.std.proofs.Math.Dec.{eqb, eqb→eq, eqb_refl}
use Rattle.format.specs.Bytes.{Bytes}
use Rattle.volume.specs.Lists.{keep, first}
use Rattle.volume_laws.specs.Tests.{true→T, not_T→false, not_is_false}
use Rattle.volume_laws.specs.Lists.{keep_first, keep_mem, mem_keep, all_mem, not_all}
use Rattle.calls.specs.Collect.{eligible, count_of, precedes, unpreceded, source_of}
use Rattle.calls.specs.declared.Descriptor.{Descriptor}
use Rattle.collect_laws.specs.Source.{Preceded, Leads, IsSource}

module _ (image : Bytes) (es : List Descriptor) where
  leads : (d : Descriptor) → unpreceded image es d ≡ true → Leads image es d
  unfolding unpreceded
  leads d a e m = not_T→false (T_not (precedes (count_of image e) (count_of image d)) (all_mem (λ e. not (precedes (count_of image e) (count_of image d))) es (true→T a) m))

  preceded : (d : Descriptor) → unpreceded image es d ≡ false → Preceded image es d
  unfolding unpreceded
  preceded d a =
      let n = not_all (λ e. not (precedes (count_of image e) (count_of image d))) es (λ u. rw a at u) in
      (n.0, n.1, not_is_false (precedes (count_of image n.0) (count_of image d)) n.2)

  first_is : (s : Descriptor) → first (keep (unpreceded image es) es ++ es) ≡ some s → IsSource image es s
  unfolding first
  first_is s q = go (keep (unpreceded image es) es) refl q
    where
      none_leads : keep (unpreceded image es) es ≡ [] → (d : Descriptor) → Memᴰ d es → Preceded image es d
      none_leads e d m = preceded d (not_T→false (λ t. Memᴰ.not-nil (rw e at (mem_keep (unpreceded image es) es m t))))

      fallback : (l : List Descriptor) → es ≡ l → keep (unpreceded image es) es ≡ [] → first l ≡ some s → IsSource image es s
      fallback [] z e q = let y : ◌≡◌ {A = ℕ} 0 1 = cc in absurd (omega arith)
      fallback (d ∷ l) z e q = record {
        before = [];
        behind = l;
        split = z ∙ (let y : d ≡ s = cc in rw y);
        chosen = inr (none_leads e, refl);
      }

      go : (k : List Descriptor) → keep (unpreceded image es) es ≡ k → first (k ++ es) ≡ some s → IsSource image es s
      go [] e q = fallback es refl e q
      go (d ∷ k) e q =
          let y : d ≡ s = cc in
          let r = keep_first (unpreceded image es) es e in
          record {
            before = r.before;
            behind = r.behind;
            split = rw (← y) r.split;
            chosen = inl (rw (← y) (leads d r.passes), λ d m. preceded d (r.fail d m));
          }

-- the eligible areas are the file areas as long as scratch
module _ (fs : List Descriptor) (t : Descriptor) where
  pub eligible_file : {d : Descriptor} → Memᴰ d (eligible fs t) → Memᴰ d fs × (d.length ≡ t.length)
  unfolding eligible
  eligible_file {d} m = let k = keep_mem (λ d. eqb d.length t.length) fs m in (k.0, eqb→eq d.length t.length k.1)

  pub file_eligible : {d : Descriptor} → Memᴰ d fs → d.length ≡ t.length → Memᴰ d (eligible fs t)
  unfolding eligible
  file_eligible m z = mem_keep (λ d. eqb d.length t.length) fs m (rw z (eqb_refl t.length))

-- the source is one of them, chosen so
pub source_found : (image : Bytes) (fs : List Descriptor) (t s : Descriptor) → source_of image fs t ≡ some s
    → Memᴰ s fs × (s.length ≡ t.length) × IsSource image (eligible fs t) s
unfolding source_of
source_found image fs t s q =
    let c = first_is image (eligible fs t) s q in
    let m = eligible_file fs t {d = s} (rw c.split (Memᴰ.append_right c.before (Memᴰ.head refl))) in
    (m.0, m.1, c)

-- and there is one where an area is eligible
pub source_none : (image : Bytes) (fs : List Descriptor) (t : Descriptor) → source_of image fs t ≡ none → eligible fs t ≡ []
unfolding source_of first
source_none image fs t = go (keep (unpreceded image (eligible fs t)) (eligible fs t)) (eligible fs t)
  where
    go : (k l : List Descriptor) → first (k ++ l) ≡ none → l ≡ []
    go [] [] q = refl
    go [] (d ∷ l) q = let z : ◌≡◌ {A = ℕ} 0 1 = cc in absurd (omega arith)
    go (d ∷ k) l q = let z : ◌≡◌ {A = ℕ} 0 1 = cc in absurd (omega arith)
