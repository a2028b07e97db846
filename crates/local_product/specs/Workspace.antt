-- The order whose points a workspace serves.
use Rattle.std.specs.Prelude.{◌≡◌, ℕ, suc, length}
use Rattle.local_product.specs.declared.workspace.Workspace.{Workspace}

abbrev pub IsWorkspaceOf : ℕ → Workspace → Type 0
IsWorkspaceOf n w = length w.sum ≡ suc n
