use Rattle.std.proofs.Common.{◌≡◌, ◌-◌, take, drop, length, map, get_or}

abbrev pub invariant-loop-f : Rattle.qm_obj.proofs.used.renumber.Given.invariant-loop-f
invariant-loop-f l = record {
  size : length l.faces.items ≡ length l.initial.faces.items;
  prefix : take l.f l.faces.items ≡ map (λ corners. map (λ corner. get_or l.vertices (corner - 1) 0) corners)
      (take l.f l.initial.faces.items);
  back : drop l.f l.faces.items ≡ drop l.f l.initial.faces.items;
}
