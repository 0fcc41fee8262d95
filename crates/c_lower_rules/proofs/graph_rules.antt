mod Ways
mod WaysFlows
mod WaysRows
mod WaysSwitch
mod Sits
mod Settings
mod Operands
mod SitsFlows
mod SitsValues
mod SitsRows
mod SitsBranches
mod SitsSwitch
mod ValueTrees
mod StatementTrees
mod WaysWhole
mod WholeSettings
pub mod Whole
