-- What survives a collection leaves out only what was dead and nothing can bring back.
use Rattle.std.specs.Prelude.{ℕ, ◌≡◌, refl, ◌⊎◌, ◌≢◌, true, false, ◌&&◌, ◌||◌}
use Rattle.std.proofs.Common.{sym, ap, ◌∙◌, inl, inr}
use Rattle.std.proofs.Math.Logic.{⊎_elim}
use Rattle.std.proofs.Math.Bool.{not}
use Rattle.std.proofs.Math.Option.{Option, none, some}
use mathlib.Core.List.Memᴰ
use mathlib.Core.List.{List, ◌++◌, Memᴰ}
use Rattle.std.proofs.Math.Dec.{T, eqb, eqb_refl, T_not}
use Rattle.format.specs.Bytes.{Bytes}
use Rattle.format.specs.Record.{record_size, record_id, record_link}
use Rattle.format.specs.Reading.{area_records}
use Rattle.volume.specs.View.{by_bytes}
use Rattle.volume.specs.Counting.{Volume, volume_of, inode_of, block_of}
use Rattle.volume.specs.Lists.{keep}
use Rattle.volume.specs.Fate.{dead, fate_of, block_dead}
use Rattle.volume_laws.specs.Tests.{T→true, true→T, not_T→false, and_T, eqb_differ, T_other}
use Rattle.volume_laws.specs.Lists.{keep_mem, mem_keep, mem_all}
use Rattle.volume_laws.specs.Counting.{Agree, agree_sub, counting_mem, counting_none, counting_absent, counting_sub}
use Rattle.calls.specs.Mount.{bytes_of}
use Rattle.calls.specs.Collect.{counts, first_places, drops_block, names_inode, drops_inode, drops, copies}
use Rattle.collect_laws.specs.Survivors.{InodeLeft, BlockLeft, Survivors}
use Rattle.demand2_collect.specs.Dropped.{InodeDropped, BlockDropped, LeftOut}
use Rattle.demand2_collect.specs.Copies.{Moved}

-- the members of a volume
module _ (rs : List Bytes) (b : Bytes) where
  pub inode_in : Memᴰ b (volume_of by_bytes rs).inodes → Memᴰ b rs × (by_bytes.is_block b ≡ false)
  unfolding volume_of
  inode_in m = let k = keep_mem (λ r. not (by_bytes.is_block r)) rs m in (k.0, not_T→false (T_not (by_bytes.is_block b) k.1))

  in_inodes_lem : Memᴰ b rs → by_bytes.is_block b ≡ false → Memᴰ b (volume_of by_bytes rs).inodes
  unfolding volume_of
  in_inodes_lem m e = mem_keep (λ r. not (by_bytes.is_block r)) rs m (rw e tt)

  pub block_in : Memᴰ b (volume_of by_bytes rs).blocks → Memᴰ b rs × (by_bytes.is_block b ≡ true)
  unfolding volume_of
  block_in m = let k = keep_mem by_bytes.is_block rs m in (k.0, T→true k.1)

  in_blocks : Memᴰ b rs → by_bytes.is_block b ≡ true → Memᴰ b (volume_of by_bytes rs).blocks
  unfolding volume_of
  in_blocks m e = mem_keep by_bytes.is_block rs m (true→T e)

-- ---- what is not copied

module _ (v : Volume Bytes) (source elsewhere : List Bytes) (i : ℕ) where
  not_dropped : (b : Bytes) → Memᴰ b (copies v source elsewhere) → ¬ T (drops v source elsewhere b)
  unfolding copies
  not_dropped b m =
      let k = keep_mem (λ b. counts v b && not (drops v source elsewhere b)) (first_places source) m in
      T_not (drops v source elsewhere b) (and_T (counts v b) (not (drops v source elsewhere b)) k.1).1

  -- "A dead inode isn't copied if no accepted record .. names its id as id, parent or owner, its own records in the source area apart"
  pub inode_not_copied : fate_of by_bytes v i ≡ dead → ((b : Bytes) → Memᴰ b elsewhere → (record_id b ≢ i) × (record_link b ≢ i))
      → ((b : Bytes) → Memᴰ b source → record_link b ≡ i → record_id b ≡ i)
      → (b : Bytes) → Memᴰ b (copies v source elsewhere) → by_bytes.is_block b ≡ false → record_id b ≢ i
  unfolding drops drops_inode names_inode
  inode_not_copied died none_elsewhere own b m k e = not_dropped b m (rw (drops, k, drops_inode, e, died) (mem_all _ _ unnamed))
    where
      unnamed : (c : Bytes) → Memᴰ c (keep (λ c. not (eqb (record_id c) i)) source ++ elsewhere)
          → T (not (eqb (record_id c) i || eqb (record_link c) i))
      unnamed c n = ⊎_elim
          (λ z. let s = keep_mem (λ c. not (eqb (record_id c) i)) source z in
          let o : record_id c ≢ i = λ q. T_not (eqb (record_id c) i) s.1 (rw q (eqb_refl i)) in
          other o (λ q. o (own c s.0 q)))
          (λ z. let s = none_elsewhere c z in other s.0 s.1)
          (Memᴰ.append_cases (keep (λ c. not (eqb (record_id c) i)) source) n)
        where
          other : record_id c ≢ i → record_link c ≢ i → T (not (eqb (record_id c) i || eqb (record_link c) i))
          other a b = rw (eqb_differ (record_id c) i a, eqb_differ (record_link c) i b) tt

  -- "A dead block isn't copied if no other file area has a record of its id"
  pub block_not_copied : ((b : Bytes) → Memᴰ b elsewhere → record_id b ≢ i)
      → (b : Bytes) → Memᴰ b (copies v source elsewhere) → by_bytes.is_block b ≡ true → block_dead by_bytes v b ≡ true → record_id b ≢ i
  unfolding drops drops_block
  block_not_copied none_elsewhere b m k died e =
      not_dropped b m (rw (drops, k, drops_block, died, e) (mem_all _ elsewhere (λ c n. T_other (record_id c) i (none_elsewhere c n))))

module _ (rs ss : List Bytes) (area : Bytes) (elsewhere bs : List Bytes) (m : Moved rs ss (bytes_of (area_records record_size area)) elsewhere bs)
    (k : Survivors (volume_of by_bytes rs) area elsewhere bs) (ag : Agree by_bytes rs) where
  abbrev v : Volume Bytes
  v = volume_of by_bytes rs

  abbrev w : Volume Bytes
  w = volume_of by_bytes ss

  pub fewer_records : (b : Bytes) → Memᴰ b ss → Memᴰ b rs
  fewer_records b n = ⊎_elim (λ z. m.source_was b (k.from_source b z)) (m.others_were b) (m.is b n)

  pub fewer_inodes : (b : Bytes) → Memᴰ b w.inodes → Memᴰ b v.inodes
  fewer_inodes b z = let n = inode_in ss b z in in_inodes_lem rs b (fewer_records b n.0) n.1

  pub fewer_blocks : (b : Bytes) → Memᴰ b w.blocks → Memᴰ b v.blocks
  fewer_blocks b z = let n = block_in ss b z in in_blocks rs b (fewer_records b n.0) n.1

  agree_inodes : Agree by_bytes v.inodes
  agree_inodes = agree_sub by_bytes rs v.inodes (λ b z. (inode_in rs b z).0) ag

  agree_blocks : Agree by_bytes v.blocks
  agree_blocks = agree_sub by_bytes rs v.blocks (λ b z. (block_in rs b z).0) ag

  -- the record of an id that counted and is left out: none of that id is there any more
  inode_dropped : (i : ℕ) (r : Bytes) → inode_of by_bytes v i ≡ some r → ¬ Memᴰ r bs → InodeLeft v (bytes_of (area_records record_size area)) elsewhere r
      → InodeDropped by_bytes v w i
  inode_dropped i r e out h = record {
    died = ap (fate_of by_bytes v) (sym own.1) ∙ h.died;
    unnamed = λ s n. only_own s (inode_in rs s n).0;
    unowned = λ s n. only_own s (block_in rs s n).0;
    none_left = counting_absent by_bytes w.inodes i gone;
  }
    where
      own : Memᴰ r v.inodes × (record_id r ≡ i)
      own = counting_mem by_bytes v.inodes i r e

      -- no record but its own names it
      only_own : (s : Bytes) → Memᴰ s rs → record_link s ≡ i → record_id s ≡ i
      only_own s n q =
          ⊎_elim (λ z. h.unnamed s z (q ∙ sym own.1) ∙ own.1) (λ z. absurd (h.unnamed_elsewhere s z (q ∙ sym own.1))) (m.was s n)

      gone : (s : Bytes) → Memᴰ s w.inodes → record_id s ≢ i
      gone s n q = ⊎_elim again (λ z. h.none_elsewhere s z (q ∙ sym own.1)) (m.is s (inode_in ss s n).0)
        where
          again : Memᴰ s bs → ⊥
          again z =
              let c = k.inode_counts s z (inode_in ss s n).1 in
              let y : ◌≡◌ {A = Option Bytes} (some s) (some r) = sym c ∙ ap (inode_of by_bytes v) q ∙ e in
              let u : s ≡ r = cc in
              out (Memᴰ.cast (sym u) z)

  block_dropped : (i : ℕ) (r : Bytes) → block_of by_bytes v i ≡ some r → ¬ Memᴰ r bs → BlockLeft v elsewhere r → BlockDropped by_bytes v w i
  block_dropped i r e out h = record {
    died = λ t q. let y : ◌≡◌ {A = Option Bytes} (some t) (some r) = sym q ∙ e in let u : t ≡ r = cc in rw u h.died;
    none_left = counting_absent by_bytes w.blocks i gone;
  }
    where
      own : Memᴰ r v.blocks × (record_id r ≡ i)
      own = counting_mem by_bytes v.blocks i r e

      gone : (s : Bytes) → Memᴰ s w.blocks → record_id s ≢ i
      gone s n q = ⊎_elim again (λ z. h.none_elsewhere s z (q ∙ sym own.1)) (m.is s (block_in ss s n).0)
        where
          again : Memᴰ s bs → ⊥
          again z =
              let c = k.block_counts s z (block_in ss s n).1 in
              let y : ◌≡◌ {A = Option Bytes} (some s) (some r) = sym c ∙ ap (block_of by_bytes v) q ∙ e in
              let u : s ≡ r = cc in
              out (Memᴰ.cast (sym u) z)

  -- a record that counts is kept, or it was in the source and is left out
  inode_each : (i : ℕ) → (inode_of by_bytes w i ≡ inode_of by_bytes v i) ⊎ InodeDropped by_bytes v w i
  inode_each i = go (inode_of by_bytes v i) refl
    where
      go : (o : Option Bytes) → inode_of by_bytes v i ≡ o → (inode_of by_bytes w i ≡ inode_of by_bytes v i) ⊎ InodeDropped by_bytes v w i
      go none e = inl (counting_absent by_bytes w.inodes i (λ s n. counting_none by_bytes v.inodes i e s (fewer_inodes s n)) ∙ sym e)
      go (some r) e =
          let own = counting_mem by_bytes v.inodes i r e in
          let n = inode_in rs r own.0 in
          let stays : Memᴰ r ss → inode_of by_bytes w i ≡ inode_of by_bytes v i
          = λ z. counting_sub by_bytes v.inodes w.inodes agree_inodes fewer_inodes i r e (in_inodes_lem ss r z n.1) ∙ sym e in
          ⊎_elim
          (λ z. ⊎_elim (λ y. inl (stays (m.copies_are r y))) (λ y. inr (inode_dropped i r e y.0 y.1)) (k.inode_kept r z n.1 (rw own.1 e)))
          (λ z. inl (stays (m.others_are r z)))
          (m.was r n.0)

  block_each : (i : ℕ) → (block_of by_bytes w i ≡ block_of by_bytes v i) ⊎ BlockDropped by_bytes v w i
  block_each i = go (block_of by_bytes v i) refl
    where
      go : (o : Option Bytes) → block_of by_bytes v i ≡ o → (block_of by_bytes w i ≡ block_of by_bytes v i) ⊎ BlockDropped by_bytes v w i
      go none e = inl (counting_absent by_bytes w.blocks i (λ s n. counting_none by_bytes v.blocks i e s (fewer_blocks s n)) ∙ sym e)
      go (some r) e =
          let own = counting_mem by_bytes v.blocks i r e in
          let n = block_in rs r own.0 in
          let stays : Memᴰ r ss → block_of by_bytes w i ≡ block_of by_bytes v i
          = λ z. counting_sub by_bytes v.blocks w.blocks agree_blocks fewer_blocks i r e (in_blocks ss r z n.1) ∙ sym e in
          ⊎_elim
          (λ z. ⊎_elim (λ y. inl (stays (m.copies_are r y))) (λ y. inr (block_dropped i r e y.0 y.1)) (k.block_kept r z n.1 (rw own.1 e)))
          (λ z. inl (stays (m.others_are r z)))
          (m.was r n.0)

  pub left_out : LeftOut by_bytes v w
  left_out = record { fewer = fewer_inodes; each_inode = inode_each; each_block = block_each }
