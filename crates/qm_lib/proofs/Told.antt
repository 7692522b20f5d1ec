-- A run over any streams, told by what contracts see of them; and so of a run over bytes in memory.
use Rattle.std.proofs.Common.{◌≡◌, [], ℕ, Option, Some, subst, ap, inl, inr, refl}
use Rattle.def_io.specs.{Bytes.Bytes, Bytes.Lines, Lines.lines_of, Memory.Store, Moves.StreamState, Moves.stream}
use Rattle.def_lib.specs.Calls.{HasRunOver, from_to, in_memory}
use Rattle.def_run.specs.{Exits.Ends, Exits.RunsTo, Status.status_of, declared.answer.Answer.Answer}
use Rattle.def_run.specs.declared.answer.Answer.TheVariants.{Memory}

module _ {S O E : Type 0} (s : S → StreamState) (o : O → StreamState) (e : E → StreamState)
    (input input' : S) (out out' : O) (err err' : E) where
  runs_told : (words : Lines) (answer : Answer)
      → RunsTo words (stream s input input') (stream o out out') (stream e err err') answer
      → RunsTo words (from_to (s input) (s input')) (from_to (o out) (o out')) (from_to (e err) (e err')) answer
  runs_told words answer runs = record {
    usage = runs.usage;
    ran = runs.ran;
    reread = runs.reread;
    told = runs.told;
    complete = runs.complete;
    settled = runs.settled;
    untouched = λ a b. ap o (runs.untouched a b);
    quiet = λ a. ap e (runs.quiet a);
    unread = λ a. ap s (runs.unread a);
    unasked = λ size line. ap s (runs.unasked size line);
    calm = runs.calm;
  }

  -- What stays as it was is told as it was.
  ends_told : (given : Option Lines) (status : ℕ)
      → Ends given (stream s input input') (stream o out out') (stream e err err') status
      → Ends given (from_to (s input) (s input')) (from_to (o out) (o out')) (from_to (e err) (e err')) status
  ends_told given status (inl up) = inl (record {
    unread = ap s up.unread;
    untouched = ap o up.untouched;
    quiet = ap e up.quiet;
    said = up.said;
  })
  ends_told given status (inr (words, read, exits)) = inr (
    words,
    read,
    record { answer = exits.answer; runs = runs_told words exits.answer exits.runs; said = exits.said },
  )

-- What contracts see of a sink in memory.
abbrev seen_of : (sink : Store) → StreamState
seen_of sink = in_memory sink.taken sink.faults

-- The sink has taken nothing, and no write failed.
abbrev pub IsNew : (sink : Store) → Type 0
IsNew sink = (sink.taken ≡ []) × (sink.faults ≡ 0)

new_is : (sink : Store) → IsNew sink → seen_of sink ≡ in_memory [] 0
new_is sink (empty, well) = λ i. in_memory (empty i) (well i)

-- A run that began with a source of these bytes and with two new sinks.
pub ran_over : {S : Type 0} (left_of : S → Bytes) (words input : Bytes) (before after : S) (out out' err err' : Store)
    (given : Option Lines) (status : ℕ) → Ends given (stream (λ held. in_memory (left_of held) 0) before after)
    (stream seen_of out out') (stream seen_of err err') status → given ≡ Some (lines_of words) → left_of before ≡ input
    → IsNew out → IsNew err → HasRunOver words input out'.taken err'.taken status
ran_over left_of words input before after out out' err err' given status ends is held new_out new_err =
    let seen = ends_told (λ held. in_memory (left_of held) 0) seen_of seen_of before after out out' err err' given
    status ends in
    record {
      left = left_of after;
      out_faults = out'.faults;
      err_faults = err'.faults;
      ends = subst (λ (lines : Option Lines). Ends lines (from_to (in_memory input 0) (in_memory (left_of after) 0))
          (from_to (in_memory [] 0) (seen_of out')) (from_to (in_memory [] 0) (seen_of err')) status) is
          (subst (λ (first : StreamState). Ends given (from_to (in_memory input 0) (in_memory (left_of after) 0))
          (from_to (in_memory [] 0) (seen_of out')) (from_to first (seen_of err')) status) (new_is err new_err)
          (subst (λ (first : StreamState). Ends given (from_to (in_memory input 0) (in_memory (left_of after) 0))
          (from_to first (seen_of out')) (from_to (seen_of err) (seen_of err')) status) (new_is out new_out)
          (subst (λ (bytes : Bytes). Ends given (from_to (in_memory bytes 0) (in_memory (left_of after) 0))
          (from_to (seen_of out) (seen_of out')) (from_to (seen_of err) (seen_of err')) status) held seen)));
    }

-- There was no memory for the words, and nothing was touched.
pub gave_up : (words input : Bytes) (out err : Store) (status : ℕ) → status ≡ status_of Memory → IsNew out → IsNew err
    → HasRunOver words input out.taken err.taken status
gave_up words input out err status said new_out new_err = record {
  left = input;
  out_faults = out.faults;
  err_faults = err.faults;
  ends = inl (record { unread = refl; untouched = new_is out new_out; quiet = new_is err new_err; said = said });
}
