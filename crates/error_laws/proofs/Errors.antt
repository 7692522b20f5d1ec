-- Errors that are handed on.
use Rattle.std.specs.Prelude.{IfErr, IsErrAnd, IsErrOf}
use Rattle.std.proofs.Common.{◌≡◌, Result, Ok, Err, sym, ◌∙◌, subst}

-- What holds of an error holds of the result that hands it on.
pub handed : {T E : Type 0} (P : E → Type 0) (result : Result T E) (fail : E) → IsErrAnd result (λ e. e ≡ fail) → P fail
    → IfErr result P
handed P (Ok x) fail is p = tt
handed P (Err e) fail is p = subst P (sym is) p

-- An error that is handed on is the one that came.
pub same_error : {T E : Type 0} (result : Result T E) (fail other : E) → IsErrAnd result (λ e. e ≡ fail)
    → IsErrOf result other → fail ≡ other
same_error (Ok x) fail other is said = absurd is
same_error (Err e) fail other is said = let same : e ≡ other = cc said in sym is ∙ same
