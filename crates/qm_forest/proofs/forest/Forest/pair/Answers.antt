use Rattle.{std.proofs.Common.rules, qm_forest.proofs.RingRounds.entered_size}

pub returns-clause-room : Rattle.qm_forest.proofs.forest.Forest.pair.Goals.returns-clause-room
returns-clause-room c = record {
  laminar = c.requires.room.laminar;
  sound = c.requires.room.sound;
  marks = search rules;
  left_out = search (rules, entered_size);
}
