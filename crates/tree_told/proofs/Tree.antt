-- The theorem, of every image and area list that mounts.
use Rattle.std.specs.Prelude.{◌≡◌, List}
use Rattle.std.proofs.Common.{arith}
use Rattle.format.specs.Bytes.{Bytes}
use Rattle.volume.specs.View.{by_bytes}
use Rattle.calls.specs.Mount.{volume, mount_number}
use Rattle.calls.specs.declared.Descriptor.{Descriptor}
use Rattle.calls_laws.specs.Checks.{passes}
use Rattle.calls_laws.specs.Records.{volume_sound}
use Rattle.demand2.specs.Found.{root_there, root_lives}
use Rattle.demand2.proofs.Mounted.{ids_few}
use Rattle.tree_told.specs.Words.{TreeTold}
use Rattle.tree_told.proofs.Told.{lines_told}
use Rattle.tree_told.proofs.Text.{text_told}
use Rattle.tree_told.proofs.Size.{name_short, data_short, text_short}

-- T-07
pub tree_told : (image : Bytes) (ds : List Descriptor) → mount_number image ds ≡ 0 → TreeTold image ds
tree_told image ds m =
    let v = volume image ds in
    let p = passes image ds m in
    let r = root_there v p.root in
    let l = root_lives by_bytes v r.0 r.1 in
    let s = volume_sound image ds in
    let f = ids_few v p.few in
    record {
      lines = lines_told v s l;
      text = text_told v;
      short = λ o. let n = text_short v s l (name_short image ds o) (data_short image ds) f.1 r.0 r.1 in omega (arith, n, f.0);
    }
