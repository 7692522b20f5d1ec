-- The text of a remesh is its head line, the text of the new mesh and the lines of the certificates.
use Rattle.std.proofs.Common.{◌≡◌, ℕ, List, Option, ◌++◌, ◌∙◌, ap, ap₂}
use Rattle.def_certtext.specs.{CertLines.text_of, CertLines.used, CertLines.Certificates, Laws.certificate_lines}
use Rattle.def_certtext.specs.{declared.certs.Rising.Rising}
use Rattle.def_remesh.specs.{CutSoups.Regrid, NewPoints.lengths_in, NewSoup.spaced_soup, Remeshed.text_behind_head}
use Rattle.def_text.specs.{Canonical.canonical_text, FaceSet.FaceSet}
use Rattle.{def_io.specs.Bytes.Bytes, def_layout.specs.Layouts.Layout}

-- The pieces that are put are the text.
pub pieces_are : (rising : Rising) (soup : FaceSet) (layout : Layout) (shares : Option (List ℕ))
    (certificates : Certificates) (new : Regrid) (xs : List ℕ) (head between said : Bytes)
    → new ≡ record { soup = soup; layout = layout; lengths = xs; shares = shares } → xs ≡ (used certificates).x
    → said ≡ text_of (certificate_lines rising certificates)
    → head ++ (canonical_text (spaced_soup new.soup new.layout new.shares (lengths_in new.lengths)) ++
    (between ++ said)) ≡ head ++ text_behind_head between rising soup layout shares certificates
pieces_are rising soup layout shares certificates new xs head between said is lengths lines
    = ap (λ (n : Regrid). head ++ (canonical_text (spaced_soup n.soup n.layout n.shares (lengths_in n.lengths)) ++
    (between ++ said))) is ∙ ap₂ (λ (ys : List ℕ) (end : Bytes). head ++
    (canonical_text (spaced_soup soup layout shares (lengths_in ys)) ++ (between ++ end))) lengths lines

-- A new mesh of these.
abbrev pub with_lengths : (soup : FaceSet) (layout : Layout) (shares : Option (List ℕ)) (lengths : List ℕ) → Regrid
with_lengths soup layout shares lengths =
    record { soup = soup; layout = layout; lengths = lengths; shares = shares }
