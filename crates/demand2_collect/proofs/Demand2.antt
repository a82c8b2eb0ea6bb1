-- Demand 2, whole: for any image and any area list, what each call leaves.
use Rattle.std.specs.Prelude.{ℕ, ◌<◌, ◌≡◌, ◌⊎◌}
use Rattle.std.proofs.Common.{◌∙◌, inl, inr, arith}
use Rattle.std.proofs.Math.Option.{some}
use mathlib.Core.List.{List, Memᴰ}
use Rattle.std.proofs.Math.Decide.{ℕ_discrete}
use Rattle.format.specs.Bytes.{Bytes}
use Rattle.format.specs.Record.{record_id, record_sequence}
use Rattle.volume.specs.View.{by_bytes}
use Rattle.volume.specs.Counting.{counting}
use Rattle.volume_laws.specs.Counting.{Agree, counting_mem, counting_top, counting_some, counting_is}
use Rattle.calls.specs.Mount.{volume, mount_number}
use Rattle.calls.specs.declared.Descriptor.{Descriptor}
use Rattle.calls_laws.specs.Checks.{passes}
use Rattle.demand2.proofs.Mounted.{agreed_inodes, agreed_blocks}
use Rattle.demand2.proofs.Format.{format}
use Rattle.demand2.proofs.Create.{create}
use Rattle.demand2.proofs.Append.{append, append_nothing}
use Rattle.demand2.proofs.Unlink.{unlink}
use Rattle.demand2_rename.proofs.Rename.{rename}
use Rattle.demand2_overwrite.proofs.Overwrite.{overwrite, overwrite_nothing, versions_meant}
use Rattle.demand2.proofs.Refused.{refused_calls}
use Rattle.demand2_collect.proofs.Collect.{collect}
use Rattle.demand2_collect.specs.Demand2.{Greatest, GreatestCounts, Demand2}

greatest_counts : (mount : ℕ) (rs : List Bytes) → (mount ≡ 0 → Agree by_bytes rs) → GreatestCounts mount rs (counting by_bytes rs)
greatest_counts mount rs agreed = record {
  greatest = λ i r e. let m = counting_mem by_bytes rs i r e in record { there = m.0; own_id_lem = m.1; top = counting_top by_bytes rs i r e };
  each = counting_some by_bytes rs;
  exactly = sole;
}
  where
    sole : mount ≡ 0 → (i : ℕ) (r : Bytes) → Greatest rs i r → counting by_bytes rs i ≡ some r
    sole z i r g = rw (← g.own_id_lem) (counting_is by_bytes rs r g.there (λ s m e. rival s m e (ℕ_discrete (record_sequence s) (record_sequence r))))
      where
        rival : (s : Bytes) → Memᴰ s rs → record_id s ≡ record_id r → Dec (record_sequence s ≡ record_sequence r)
            → (s ≡ r) ⊎ (record_sequence s < record_sequence r)
        rival s m e (yes q) = inl (agreed z s r m g.there e q)
        rival s m e (no q) = inr (omega (arith, g.top s m (e ∙ g.own_id_lem)))

pub demand2 : (image : Bytes) (ds : List Descriptor) → Demand2 image ds
demand2 image ds = record {
  inodes = greatest_counts (mount_number image ds) (volume image ds).inodes (λ z. agreed_inodes image ds (passes image ds z));
  blocks = greatest_counts (mount_number image ds) (volume image ds).blocks (λ z. agreed_blocks image ds (passes image ds z));
  formats = format image ds;
  creates = create image ds;
  appends = append image ds;
  appends_nothing = append_nothing image ds;
  unlinks = unlink image ds;
  renames = rename image ds;
  overwrites = overwrite image ds;
  overwrites_nothing = overwrite_nothing image ds;
  overwrites_need = versions_meant image ds;
  collects = collect image ds;
  refused = refused_calls image ds;
}
