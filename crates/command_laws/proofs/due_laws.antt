pub mod Accepted
mod AcceptedBounds
mod Agreement
pub mod OneDue
pub mod OneFile
mod OneKind
mod OneLeast
mod OneLine
mod Printed
mod PrintedLines
mod Remeasured
mod Unreachable
