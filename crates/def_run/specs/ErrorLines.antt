-- The line that each refusal writes to the error sink.
use Rattle.std.specs.Prelude.{ℕ, ◌+◌, ◌/◌, ◌%◌, ◌==◌, if◌then◌else◌, List, [], ◌++◌, codes, decimal, slice_index}
use Rattle.std.specs.Fmt.{signed_decimal}
use Rattle.def_flow.specs.declared.cert.CertVerdict.{CertVerdict}
use Rattle.def_flow.specs.declared.cert.CertVerdict.TheVariants as certs
use Rattle.def_io.specs.Bytes.{Bytes}
use Rattle.def_matching.specs.declared.weighted.Verdict.{Verdict}
use Rattle.def_matching.specs.declared.weighted.Verdict.TheVariants.{Yes, Shape, Even, Negative, Short}
use Rattle.def_text.specs.declared.refusal.Which.{Which}
use Rattle.def_text.specs.declared.refusal.Which.TheVariants as limits
use Rattle.def_run.specs.declared.answer.Answer.{Answer}
use Rattle.def_run.specs.declared.answer.Answer.TheVariants.{Done, NotAccepted, Usage, Syntax, NotQuad, Range, Limit}
use Rattle.def_run.specs.declared.answer.Answer.TheVariants.{NotManifold, NotEdge, Tangled, TooFine, Doubled}
use Rattle.def_run.specs.declared.answer.Answer.TheVariants.{ReadFault, WriteFault, Memory, Far}
use Rattle.def_run.specs.declared.answer.Why.{Why}
use Rattle.def_run.specs.declared.answer.Why.TheVariants as why
use Rattle.def_mesh.specs.declared.Place.{Place}
use Rattle.def_mesh.specs.declared.Place.TheVariants.{Repeated, EdgeTwice, TwoFans}

-- The number that the file gave a vertex.
abbrev pub name_text : (names : List ℕ) (vertex : ℕ) → Bytes
name_text names vertex = decimal (slice_index names vertex)

-- A place, with vertices by their numbers in the file and faces from 1.
abbrev pub place_text : (names : List ℕ) (place : Place) → Bytes
place_text names (Repeated face vertex) =
    codes "face " ++ decimal (face + 1) ++ codes ": vertex " ++ name_text names vertex ++ codes " repeated"
place_text names (EdgeTwice from to face1 face2) =
    codes "edge " ++ name_text names from ++ codes " " ++ name_text names to
    ++ codes ": faces " ++ decimal (face1 + 1) ++ codes " and " ++ decimal (face2 + 1)
place_text names (TwoFans vertex) = codes "vertex " ++ name_text names vertex ++ codes ": two fans"

-- A limit that a line exceeds, or the whole text.
abbrev pub limit_text : (which : Which) (line : ℕ) → Bytes
limit_text limits.Bytes line = codes "limit: bytes"
limit_text limits.Line line = codes "line " ++ decimal line ++ codes ": limit: line"
limit_text limits.Vertices line = codes "line " ++ decimal line ++ codes ": limit: vertices"
limit_text limits.Faces line = codes "line " ++ decimal line ++ codes ": limit: faces"

-- A face that is no quad.
abbrev pub corners_text : (line corners : ℕ) → Bytes
corners_text line corners =
    codes "line " ++ decimal line ++ codes ": face with " ++ decimal corners ++ codes " corners"

-- What is wrong with a dual of the matching graph. Sets and edges count from 1.
abbrev pub dual_verdict_text : (verdict : Verdict) → Bytes
dual_verdict_text (Yes sum) = []
dual_verdict_text (Shape index) = codes "shape " ++ decimal (index + 1)
dual_verdict_text (Even set size) = codes "set " ++ decimal (set + 1) ++ codes " size " ++ decimal size
dual_verdict_text (Negative set) = codes "set " ++ decimal (set + 1) ++ codes " negative"
dual_verdict_text (Short edge load cost) =
    codes "edge " ++ decimal (edge + 1) ++ codes " load " ++ signed_decimal load
    ++ codes " cost " ++ signed_decimal cost

-- A patch whose opposite sides differ: its first node has the south and the north side, its second one the east and
-- the west side.
abbrev pub unequal_text : (node plus minus : ℕ) → Bytes
unequal_text node plus minus =
    codes "patch " ++ decimal (node / 2 + 1)
    ++ (if node % 2 == 0 then codes " south " else codes " east ") ++ decimal plus
    ++ (if node % 2 == 0 then codes " north " else codes " west ") ++ decimal minus

-- What is wrong with a certificate. Arcs count from 1.
abbrev pub verdict_text : (verdict : CertVerdict) → Bytes
verdict_text (certs.Yes deviation) = []
verdict_text (certs.Count arcs given) = codes "arcs " ++ decimal arcs ++ codes " given " ++ decimal given
verdict_text (certs.Below arc length) = codes "arc " ++ decimal (arc + 1) ++ codes " length " ++ decimal length
verdict_text (certs.Unequal node plus minus) = unequal_text node plus minus
verdict_text (certs.Dual verdict) = dual_verdict_text verdict
verdict_text (certs.Sums dual cost) = codes "sums " ++ signed_decimal dual ++ codes " " ++ signed_decimal cost

-- Why nothing is accepted. Vertices count from 1.
abbrev pub why_text : (why : Why) → Bytes
why_text why.NoHead = codes "no head line"
why_text why.Head = codes "head"
why_text (why.CertLine line) = codes "certificate line " ++ decimal line
why_text (why.Verdict verdict) = verdict_text verdict
why_text (why.TooFine faces) = codes "faces " ++ decimal faces
why_text (why.Doubled u v) = codes "doubled " ++ decimal (u + 1) ++ codes " " ++ decimal (v + 1)
why_text (why.Rises round) = codes "round " ++ decimal round ++ codes " rises"
why_text (why.Byte at) = codes "byte " ++ decimal at

-- The accepted command lines.
abbrev pub usage_text : Bytes
usage_text =
    codes "usage: quadq tidy | graph | refine --by K | remesh --scale P/Q --floor F --weight plain|length"
    ++ codes " | check | bench --size N | crease --scale P/Q --floor F --weight plain|length | size --edge D --floor F"
    ++ codes " | coarse --scale P/Q --floor F --weight plain|length | blocks --by K"

-- Why the run ended so, where `names` has the vertices' numbers in the file.
abbrev pub reason_text : (names : List ℕ) (answer : Answer) → Bytes
reason_text names Done = []
reason_text names (NotAccepted why) = codes "not accepted: " ++ why_text why
reason_text names Usage = usage_text
reason_text names (Syntax line) = codes "line " ++ decimal line ++ codes ": not an OBJ line of this profile"
reason_text names (NotQuad line corners) = corners_text line corners
reason_text names (Range line) = codes "line " ++ decimal line ++ codes ": number out of range"
reason_text names (Limit which line) = limit_text which line
reason_text names (NotManifold place) = place_text names place
reason_text names (NotEdge line) = codes "line " ++ decimal line ++ codes ": not an edge of the mesh"
reason_text names (Tangled count) = codes "tangled: " ++ decimal count
reason_text names (TooFine faces kept) = codes "too fine: " ++ decimal faces ++ codes " faces"
reason_text names (Doubled u v cert) = codes "doubled edge: " ++ decimal (u + 1) ++ codes " " ++ decimal (v + 1)
reason_text names ReadFault = codes "read fault"
reason_text names WriteFault = codes "write fault"
reason_text names Memory = codes "out of memory"
reason_text names (Far sum) = codes "far: " ++ decimal sum

-- The whole line.
abbrev pub error_line : (names : List ℕ) (answer : Answer) → Bytes
error_line names answer = codes "quadq: " ++ reason_text names answer ++ codes "\n"
