-- What dependencies are.
use Rattle.std.specs.Prelude.{◌≤◌, List, length}
use Rattle.std.specs.List.{IsDistinct, AllByRecursion}
use Rattle.cops_types.specs.declared.dep.Dep.{Dep}
use Rattle.cops_types.specs.declared.limits.TheConstants.{MAX_DEPS}
use Rattle.cops_types.specs.KeyValue.{IsKey}
use Rattle.cops_types.specs.Version.{IsVersion}
use Rattle.cops_types.specs.Dep.{is_same_dep}

abbrev pub IsDep : Dep → Type 0
IsDep d = IsKey d.key × IsVersion d.version

-- pairs of a key and a version, all different
abbrev pub ArePairs : List Dep → Type 0
ArePairs ds = IsDistinct is_same_dep ds × AllByRecursion IsDep ds

-- dependencies of any format: at most 1,024 pairs, all different
abbrev pub AreDeps : List Dep → Type 0
AreDeps ds = (length ds ≤ MAX_DEPS) × ArePairs ds
