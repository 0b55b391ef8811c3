pub mod Computed
pub mod ControllerTurns
pub mod Line
pub mod RareTurns
pub mod Routed
pub mod SwitchTurns
