use Rattle.std.proofs.Common.{sym}
use Rattle.path_names.specs.Walking.{base_any, path_any}
use Rattle.path_names.proofs.has_name.Goals as goal

pub returns-in-InBase : goal.returns-in-InBase
returns-in-InBase c = rw c.in-InBase.is (sym (base_any c.args.base.now c.args.path.now _ (rw c.in-InBase.is at c.requires)))

pub returns-in-InPath : goal.returns-in-InPath
returns-in-InPath c = rw c.in-InPath.is (sym (path_any c.args.base.now c.args.path.now c.in-InPath.at (rw c.in-InPath.is at c.requires)))
