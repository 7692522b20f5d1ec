-- What `check` accepts: an old text, and behind it the text of a remesh of its mesh.
use Rattle.std.specs.Prelude.{◌≡◌, ℕ, Bool, Ok, take, ◌++◌, codes, decimal}
use Rattle.def_certtext.specs.HeadLine.{IsLastHead}
use Rattle.def_certtext.specs.Risings.{third_if}
use Rattle.def_certtext.specs.Settings.{AreInRange}
use Rattle.def_flow.specs.declared.net.Settings.{Settings}
use Rattle.def_io.specs.Bytes.{Bytes}
use Rattle.def_io.specs.Lines.{lines_of, tail_of}
use Rattle.def_mesh.specs.Manifold.{IsManifold}
use Rattle.def_text.specs.FaceSet.{FaceSet}
use Rattle.def_text.specs.Text.{text_soup}
use Rattle.def_remesh.specs.Certified.{AreKept}
use Rattle.def_remesh.specs.Remeshed.{IsRemeshed}
use Rattle.def_remesh.specs.Tasks.{old_lengths}

-- The last line that begins as a head line does divides the bytes. The lines before it have a soup, whose faces are a
-- manifold, and the bytes from it on are the text of a finished remesh of that soup, whose certificates are accepted.
pub record IsCheckedPair (bytes : Bytes) : Type 0 where
  pub line : ℕ
  pub divided : IsLastHead (lines_of bytes) line
  pub soup : FaceSet
  pub said : text_soup 1 (take line (lines_of bytes)) ≡ Ok soup
  pub manifold : IsManifold soup.faces
  pub settings : Settings
  pub auto : Bool
  pub in_range : AreInRange settings auto
  pub remeshed : IsRemeshed settings auto soup (tail_of line bytes)
  pub certified : AreKept old_lengths remeshed.layout settings (third_if auto) remeshed.certificates

-- The line that is written then, with the numbers of arcs and of new faces, and the deviation of the used lengths.
abbrev pub accepted_line : (arcs faces deviation : ℕ) → Bytes
accepted_line arcs faces deviation =
    codes "accepted arcs " ++ decimal arcs ++ codes " faces " ++ decimal faces
    ++ codes " deviation " ++ decimal deviation ++ codes "\n"
