-- The hypotheses of demand 3 as tests that compute.
use Rattle.std.specs.Prelude.{ℕ, zero, suc, ◌+◌, ◌-◌, ◌<◌, ◌≡◌, ◌≢◌, Bool, true, ◌&&◌, ◌||◌, drop, T, leb, ltb}
use Rattle.std.proofs.Math.Path.{sym}
use Rattle.std.proofs.Common.{◌∙◌, leb→le, T_not}
use Rattle.std.proofs.Math.Bool.{false, not}
use mathlib.Core.List.{List, ◌∷◌, Memᴰ}
use native.Mathlib.Omega.{arith}
use Rattle.std.proofs.Math.Decide.{ℕ_discrete, dec_lt}
use Rattle.std.proofs.Math.ListN.{length, get_or-eq_default}
use Rattle.std.proofs.Math.Dec.{eqb, eqb→eq, eqb_refl, ltb→lt}
use Rattle.format.specs.Bytes.{Bytes, byte_at}
use Rattle.format.specs.Ids.{is_file_id}
use Rattle.format.specs.Record.{record_id, record_size}
use Rattle.format.specs.Reading.{Placed, area_clean}
use Rattle.volume.specs.Lists.{all}
use Rattle.volume.specs.View.{by_bytes}
use Rattle.volume.specs.Fate.{is_live, fate_of, lineage}
use Rattle.volume_laws.specs.Tests.{true→T, T→true, not_T→false, not_is_false, and_T, or_T, implies_T}
use Rattle.volume_laws.specs.Lists.{all_mem, not_all}
use Rattle.volume_laws.specs.Climb.{is_live_lem}
use Rattle.calls.specs.Areas.{area_bytes, file_areas}
use Rattle.calls.specs.Mount.{records_of, volume, mount_number}
use Rattle.calls.specs.declared.Descriptor.{Descriptor}
use Rattle.demand3.specs.Words.{IsRecord, Within, InRecord, touched, Damage, Spared, Unharmed}
use Rattle.demand3.specs.Decide.{below, is_inside, outside, only_inside, all_clean, emptied, none_new, is_damage, is_spared, is_unharmed}

mem_below : (n j : ℕ) → j < n → Memᴰ j (below n)
unfolding below
mem_below zero j h = absurd (omega arith)
mem_below (suc n) j h = go (ℕ_discrete j n) (mem_below n j)
  where
    go : Dec (j ≡ n) → (j < n → Memᴰ j (below n)) → Memᴰ j (n ∷ below n)
    go (yes e) ih = Memᴰ.head e
    go (no e) ih = Memᴰ.tail (ih (omega arith))

module _ (xs ys : Bytes) (ds : List Descriptor) where
  emptied_at : (area : Bytes) (r : Placed) → T (emptied area r) → (j : ℕ) → Within r j → record_size (drop j area) ≡ 0
  unfolding emptied
  emptied_at area r t j w =
      let k : r.place + (j - r.place) ≡ j = omega arith in
      let m = mem_below (length r.bytes) (j - r.place) (omega arith) in
      let s = all_mem (λ k. eqb (record_size (drop (r.place + k) area)) 0) (below (length r.bytes)) t m in
      let e = eqb→eq (record_size (drop (r.place + (j - r.place)) area)) 0 s in
      rw k at e

  none_new_lem : T (none_new xs ys ds) → (d : Descriptor) (r : Placed) → IsRecord xs ds d r → touched xs ys d r ≡ true
      → (j : ℕ) → Within r j → record_size (drop j (area_bytes ys d)) ≡ 0
  unfolding none_new
  none_new_lem t d r o e j w =
      let s = all_mem (λ d. all (λ r. not (touched xs ys d r) || emptied (area_bytes ys d) r) (records_of xs d)) (file_areas xs ds) t o.0 in
      let u = all_mem (λ r. not (touched xs ys d r) || emptied (area_bytes ys d) r) (records_of xs d) s o.1 in
      emptied_at (area_bytes ys d) r (implies_T (touched xs ys d r) (emptied (area_bytes ys d) r) u (true→T e)) j w

  some_record : (i : ℕ) → ¬ T (outside xs ds i) → InRecord xs ds i
  unfolding outside is_inside
  some_record i n =
      let t = not_all (λ d. all (λ r. not (is_inside d r i)) (records_of xs d)) (file_areas xs ds) n in
      of_area t.0 t.1 t.2
    where
      of_record : (d : Descriptor) (r : Placed) → IsRecord xs ds d r → not (is_inside d r i) ≡ false → InRecord xs ds i
      of_record d r o e =
          let t = true→T (not_is_false (is_inside d r i) e) in
          let s = and_T (leb (d.offset + r.place) i) (ltb i (d.offset + r.place + length r.bytes)) t in
          (d, r, o, (leb→le _ _ s.0, ltb→lt _ _ s.1))

      of_area : (d : Descriptor) → Memᴰ d (file_areas xs ds) → all (λ r. not (is_inside d r i)) (records_of xs d) ≡ false → InRecord xs ds i
      of_area d m e =
          let t = not_all (λ r. not (is_inside d r i)) (records_of xs d) (λ t. rw e at t) in
          of_record d t.0 (m, t.1) t.2

  only_inside_lem : length ys ≡ length xs → T (only_inside xs ys ds) → (i : ℕ) → byte_at xs i ≢ byte_at ys i → InRecord xs ds i
  unfolding only_inside
  only_inside_lem e t i n = go (dec_lt i (length xs))
    where
      go : Dec (i < length xs) → InRecord xs ds i
      go (yes l) =
          let s = all_mem (λ i. eqb (byte_at xs i) (byte_at ys i) || not (outside xs ds i)) (below (length xs)) t (mem_below (length xs) i l) in
          let o = or_T (eqb (byte_at xs i) (byte_at ys i)) (not (outside xs ds i)) s (λ u. n (eqb→eq _ _ u)) in
          some_record i (T_not (outside xs ds i) o)
      go (no l) = absurd (n (get_or-eq_default xs 0 (omega arith) ∙ sym (get_or-eq_default ys 0 (omega arith))))

  pub damage : is_damage xs ys ds ≡ true → Damage xs ys ds
  unfolding is_damage all_clean
  damage e =
      let r = only_inside xs ys ds && none_new xs ys ds in
      let a = and_T (eqb (length ys) (length xs)) (eqb (mount_number xs ds) 0 && (all_clean xs ds && r)) (true→T e) in
      let b = and_T (eqb (mount_number xs ds) 0) (all_clean xs ds && r) a.1 in
      let c = and_T (all_clean xs ds) r b.1 in
      let d = and_T (only_inside xs ys ds) (none_new xs ys ds) c.1 in
      let l = eqb→eq (length ys) (length xs) a.0 in
      record {
        one_length = l;
        mounts = eqb→eq (mount_number xs ds) 0 b.0;
        clean = λ d m. T→true (all_mem (λ d. area_clean record_size (area_bytes xs d)) (file_areas xs ds) c.0 m);
        inside = only_inside_lem l d.0;
        no_new = none_new_lem d.1;
      }

  spared : (i : ℕ) → T (is_spared xs ys ds i) → Spared xs ys ds i
  unfolding is_spared
  spared i t d r o e =
      let s = all_mem (λ d. all (λ r. not (eqb (record_id r.bytes) i) || not (touched xs ys d r)) (records_of xs d)) (file_areas xs ds) t o.0 in
      let u = all_mem (λ r. not (eqb (record_id r.bytes) i) || not (touched xs ys d r)) (records_of xs d) s o.1 in
      not_T→false (T_not (touched xs ys d r) (implies_T (eqb (record_id r.bytes) i) (not (touched xs ys d r)) u (rw e (eqb_refl i))))

  abbrev given_spared : ℕ → Bool
  given_spared f = all (λ b. not (eqb (by_bytes.owner b) f) || is_spared xs ys ds (record_id b)) (volume xs ds).blocks

  pub unharmed : (f : ℕ) → is_unharmed xs ys ds f ≡ true → Unharmed xs ys ds f
  unfolding is_unharmed
  unharmed f e =
      let v = volume xs ds in
      let a = and_T (is_file_id f) (is_live (fate_of by_bytes v f) && (all (is_spared xs ys ds) (lineage by_bytes v f) && given_spared f)) (true→T e) in
      let b = and_T (is_live (fate_of by_bytes v f)) (all (is_spared xs ys ds) (lineage by_bytes v f) && given_spared f) a.1 in
      let c = and_T (all (is_spared xs ys ds) (lineage by_bytes v f)) (given_spared f) b.1 in
      record {
        is_file_lem = T→true a.0;
        lives = is_live_lem (fate_of by_bytes v f) b.0;
        lineage_spared = λ i m. spared i (all_mem (is_spared xs ys ds) (lineage by_bytes v f) c.0 m);
        blocks_spared = λ b m q. spared (record_id b) (implies_T (eqb (by_bytes.owner b) f) (is_spared xs ys ds (record_id b))
            (all_mem (λ b. not (eqb (by_bytes.owner b) f) || is_spared xs ys ds (record_id b)) v.blocks c.1 m) (rw q (eqb_refl f)));
      }
