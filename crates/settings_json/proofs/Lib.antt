pub mod SettingsLaw
