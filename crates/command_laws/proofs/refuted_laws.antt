mod Ends
mod Files
mod Reports
