use Rattle.std.proofs.Common.{map, take, ◌≡◌}
use Rattle.{clap.specs.Simple.app_of, qm_words.specs.Parsing.options_app}

abbrev pub invariant-loop-name : Rattle.qm_words.proofs.options.read_options.Given.invariant-loop-name
invariant-loop-name l = app_of l.command ≡ options_app (map (λ n. n.now) (take l.name-index l.names))
