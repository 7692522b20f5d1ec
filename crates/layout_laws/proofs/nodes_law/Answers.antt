use Rattle.layout_laws.proofs.FaceNodes.{are_nodes}
use Rattle.{mesh_laws.proofs.Chains.manifold_law, face_laws.proofs.FullCuts.full_cut_law}

pub returns : Rattle.layout_laws.proofs.nodes_law.Goals.returns
returns c faces marks manifold full =
    are_nodes faces (manifold_law faces manifold) marks ((full_cut_law faces marks manifold).0 full).1
