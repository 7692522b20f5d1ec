-- What `layout` does with a mesh.
use Rattle.def_remesh.specs.declared.kept.LayoutFail.{LayoutFail}

-- No layout is refused.
abbrev pub FailsNever : (failed : LayoutFail) → Type 0
FailsNever failed = ⊥
