-- What two plain forms that are the same say (Alike), by tidiness's page.
pub mod Alike
