-- One block renewed, and then others.
use Rattle.std.specs.Prelude.{refl}
use Rattle.std.proofs.Common.{◌∙◌, ⊎_elim}
use mathlib.Core.List.Memᴰ
use mathlib.Core.List.{List, [], ◌∷◌, map, Memᴰ}
use Rattle.format.specs.Bytes.{Bytes}
use Rattle.calls.specs.Overwrite.{Change}
use Rattle.calls.specs.declared.Descriptor.{Descriptor}
use Rattle.demand2_overwrite.specs.Versions.{changed_id, AllRenewed}

-- one, and then others of other ids
pub renewed_on : {image image' image'' : Bytes} {ds : List Descriptor} {c : Change} {cs : List Change} → ¬ Memᴰ (changed_id c) (map changed_id cs)
    → AllRenewed image image' ds (c ∷ []) → AllRenewed image' image'' ds cs → AllRenewed image image'' ds (c ∷ cs)
renewed_on {c = c} apart g h = record {
  passes = h.passes;
  same_inodes = record { to = λ r m. h.same_inodes.to r (g.same_inodes.to r m); back = λ r m. g.same_inodes.back r (h.same_inodes.back r m) };
  same_ids = record {
    nodup_l = h.same_ids.nodup_l;
    nodup_m = g.same_ids.nodup_m;
    to = λ x m. g.same_ids.to x (h.same_ids.to x m);
    back = λ x m. h.same_ids.back x (g.same_ids.back x m);
  };
  here = λ d m. ⊎_elim (λ e. rw e (h.others (changed_id c) apart ∙ g.here c (Memᴰ.head refl))) (h.here d) (Memᴰ.cases_cons m);
  others = λ j n. h.others j (λ m. n (Memᴰ.tail m)) ∙ g.others j (λ m. n (Memᴰ.head (Memᴰ.eq_of_singleton m)));
}
