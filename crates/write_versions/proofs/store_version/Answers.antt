use Rattle.write_versions.specs.Version.{version_stored}
use Rattle.write_versions.proofs.store_version.Goals as goal

pub returns : goal.returns
returns c = λ v.
    version_stored v _ _ c.load32.result c.load32-2.result c.next_sequence.result c.load32-3.result c.load32-4.result _
    c.load32.ensures c.load32-2.ensures c.load32-3.ensures c.load32-4.ensures c.next_sequence.ensures c.write_changed.ensures
