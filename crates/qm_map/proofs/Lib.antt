mod PatchCells
