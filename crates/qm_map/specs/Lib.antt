pub mod PatchLines
