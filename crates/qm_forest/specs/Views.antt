-- The tables of a forest, those that contracts see and those that they do not.
use Rattle.std.specs.Prelude.{List, Option}
use Rattle.std.specs.Vec.{vec_capacity}
use Rattle.def_forest.specs.Tables.{ForestTables, GraphSize}
use Rattle.qm_pool.specs.declared.pool.Node.{Node}
use Rattle.qm_forest.specs.Ties.{HiddenTables}
use Rattle.qm_forest.specs.declared.tables.Handles.{Handles}
use Rattle.qm_forest.specs.declared.tables.Lists.{Lists}
use Rattle.qm_forest.specs.declared.tables.Rings.{Rings}
use Rattle.qm_forest.specs.declared.tables.Trail.{Trail}
use Rattle.qm_forest.specs.declared.tables.Tree.{Tree}
use Rattle.qm_forest.specs.declared.tables.Weights.{Weights}

abbrev pub tables_of : (h : Handles) (l : Lists) (r : Rings) (trail : Trail) (w : Weights) (t : Tree)
    (room : Option GraphSize) → ForestTables
tables_of h l r trail w t room = record {
  hand = h.hand.items;
  top = h.top.items;
  base = w.base.items;
  delta = w.delta;
  label = t.label.items;
  mate = t.mate.items;
  link = t.link.items;
  root = t.root;
  up = r.up.items;
  after = r.after.items;
  joint = r.joint.items;
  head = r.head.items;
  parts = r.parts.items;
  rank = l.rank.items;
  trail = trail.vertices.items;
  near = t.near.items;
  room = room;
}

abbrev pub hidden_of : (h : Handles) (l : Lists) (trail : Trail) (pool : List (Option Node)) → HiddenTables
hidden_of h l trail pool = record {
  q = h.q.items;
  off = h.off.items;
  leader = l.leader.items;
  first = l.first.items;
  last = l.last.items;
  following = l.following.items;
  touched = trail.touched.items;
  room = vec_capacity trail.vertices;
  pool = pool;
}
